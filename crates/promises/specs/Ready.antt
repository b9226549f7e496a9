-- Demand 2: "A well-built command is accepted with the same fields". What makes a command well built: of what it is built of, and of the state that
-- hears it. Nothing here is about the packet's bytes.
use Rattle.std.specs.Prelude.{◌≡◌, Bool, List, ℕ, ◌≤◌, ◌<◌, length, get_or}
use Rattle.octets.specs.Little.{Bytes}
use Rattle.capability.specs.Bytes.{id_of, four_at}
use Rattle.state.specs.declared.State.{State}
use Rattle.state.specs.declared.transitions.Phase.TheVariants.{Open}
use Rattle.state.specs.Sound.{SoundFacts}
use Rattle.client.specs.Seal.{command_bytes}
use Rattle.client.specs.declared.seal.Ask.{Ask}
use Rattle.promises.specs.Packets.{key_of, Fits}
use Rattle.promises.specs.Places.{group_of, record_at, commands_of, entries_of, master_of, owner_of, word_of}
use Rattle.promises.specs.Reached.{Reached}
use Rattle.promises.specs.Stands.{Names, OfGroup, Permitted}

-- what a client gives to build a command
pub record Parts : Type 0 where
  pub ask : Ask
  pub vector : List ℕ
  pub capability : List ℕ
  pub payload : List ℕ

-- the packet, under the key of the client's connection
abbrev pub packet_of : State → Parts → List ℕ
packet_of s b = command_bytes (key_of s b.ask.client) b.vector b.ask b.capability b.payload

-- parts of the lengths that the client's call asks for, in numbers that fit their fields
pub record WellFormed (b : Parts) : Type 0 where
  pub fits : Fits b.ask
  pub vector : length b.vector ≡ 12
  pub low : get_or b.vector 0 0 < 128
  pub capability : length b.capability ≡ 50
  pub bytes : Bytes b.capability
  pub payload : length b.payload ≤ 16384

-- "for an open connection of a sound state, with a fresh number, a right group", and a room of that length
pub record Connects (s : State) (b : Parts) (room : ℕ) : Type 0 where
  pub sound : SoundFacts s.rights
  pub client : Names b.ask.client s.rights.hosts
  pub last : ℕ
  pub owed : Bool
  pub connected : (record_at s b.ask.client).phase ≡ Open last owed
  pub number : last < b.ask.sequence
  pub group : OfGroup b.ask.group (group_of s.rights b.ask.client)
  pub space : length b.payload ≤ room

-- the interface and the entry are there, and the entry is for the group
pub record Finds (s : State) (b : Parts) : Type 0 where
  pub interface : Names b.ask.interface s.rights.interfaces
  pub entry : Names (id_of b.capability) (entries_of s.rights b.ask.interface)
  pub owner : OfGroup (owner_of s.rights b.ask.interface (id_of b.capability)) b.ask.group

-- the command is one of the interface's; of a sound state, where the entry permits it, it is
abbrev pub InRange : State → Parts → Type 0
InRange s b = b.ask.command < commands_of s.rights b.ask.interface

-- "whose words and entry permit it"
abbrev pub Permits : State → Parts → Type 0
Permits s b = Permitted b.ask.command (word_of s.rights b.ask.interface (id_of b.capability)) (four_at b.capability 2)

-- the capability is one of that entry's, under the interface's master secret
abbrev pub Genuine : State → Parts → Type 0
Genuine s b = Reached (master_of s.rights b.ask.interface) (id_of b.capability) b.capability
