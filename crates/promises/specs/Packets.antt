-- The words of the promises about packets: the key of a connection, the packet of a reply, what the text of a built command has to say, and a command
-- built again from what was answered to it.
use Rattle.std.specs.Prelude.{ℕ, ◌-◌, ◌<◌, List, length, take}
use Rattle.octets.specs.Room.{part}
use Rattle.capability.specs.Bytes.{id_of, four_at, secret_of, capability}
use Rattle.refusal.specs.Answer.{Answer}
use Rattle.state.specs.declared.State.{State}
use Rattle.fields.specs.Command.{client_of}
use Rattle.fields.specs.declared.Order.{Order}
use Rattle.gateway.specs.Reply.{reply_bytes}
use Rattle.client.specs.Seal.{command_bytes, sealing, seal_room}
use Rattle.client.specs.declared.seal.Ask.{Ask}
use Rattle.promises.specs.Places.{record_at}
use Rattle.promises.specs.Step.{Said}

-- the key in the record of host h
abbrev pub key_of : State → ℕ → List ℕ
key_of s h = (record_at s h).key

-- the packet of the reply for number n to host h
abbrev pub sent : State → ℕ → ℕ → List ℕ → List ℕ
sent s h n payload = reply_bytes (key_of s h) n payload

-- ---- a command that is built

-- the fields fit their places: "2 each", "command ID (1)"
pub record Fits (a : Ask) : Type 0 where
  pub client : a.client < 65536
  pub sequence : a.sequence < 65536
  pub group : a.group < 65536
  pub interface : a.interface < 65536
  pub command : a.command < 256

-- what its text has to say
abbrev pub asked : Ask → List ℕ → List ℕ → Order
asked a capability payload = record {
  client = a.client;
  sequence = a.sequence;
  group = a.group;
  interface = a.interface;
  capability = id_of capability;
  length = length payload;
  command = a.command;
  zeros = 0;
  words = four_at capability 2;
  secret = secret_of capability;
}

-- ---- a command that was accepted: what the answer's fields ask for, the capability that they show, and the payload that was written

abbrev pub ask_of : Order → Ask
ask_of o = record { client = o.client; sequence = o.sequence; group = o.group; interface = o.interface; command = o.command }

abbrev pub shown : Order → List ℕ
shown o = capability o.capability o.words o.secret

abbrev pub payload_in : List ℕ → Said → List ℕ
payload_in p said = take (length p - 96) said.room

-- the packet p built again, with its own vector, of what was said to it: the bytes; and the client's call with a room, its answer and the room after it
abbrev pub rebuilt : State → List ℕ → Said → List ℕ
rebuilt s p said = command_bytes (key_of s (client_of p)) (part p 4 12) (ask_of said.order) (shown said.order) (payload_in p said)

abbrev pub resealing : State → List ℕ → Said → List ℕ → Answer
resealing s p said room = sealing (key_of s (client_of p)) (part p 4 12) (shown said.order) (ask_of said.order) (payload_in p said) room

abbrev pub reseal_room : State → List ℕ → Said → List ℕ → List ℕ
reseal_room s p said room = seal_room (key_of s (client_of p)) (part p 4 12) (shown said.order) (ask_of said.order) (payload_in p said) room
