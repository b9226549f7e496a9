-- A server call as data, what it is answered, and the state after it: one step, made of the definitions that the calls' contracts name (proofs/Linked: of
-- the contracts as they stand in the source). Packets, fresh bytes and payloads are lent for reading, and their types forbid writing, so only the
-- room is followed.
use Rattle.std.specs.Prelude.{ℕ, List, [], length}
use Rattle.refusal.specs.Answer as R
use Rattle.state.specs.declared.State.{State}
use Rattle.state.specs.declared.Rights.{Rights}
use Rattle.state.specs.declared.Records.{Records}
use Rattle.fields.specs.declared.Order.{Order}
use Rattle.command.specs.Heard.{no_order}
use Rattle.gateway.specs.Close.{closing}
use Rattle.gateway.specs.Revoke.{revoking}
use Rattle.gateway.specs.Request.{requesting, request_room}
use Rattle.gateway.specs.Proof.{proving, proof_room}
use Rattle.gateway.specs.Command.{command_heard, commanding, command_room}
use Rattle.gateway.specs.Reply.{replying, reply_room}

-- each with what is lent to it; its room comes last
pub data Call : Type 0 where
  request : (packet fresh room : List ℕ) → Call
  proof : (host : ℕ) (packet room : List ℕ) → Call
  command : (packet room : List ℕ) → Call
  reply : (host number : ℕ) (payload room : List ℕ) → Call
  close : (host : ℕ) → Call
  revoke : (interface entry word : ℕ) → Call

-- number and count; a request's host number and a command's fields, zeros in every other answer; and the lent room after the call
pub record Said : Type 0 where
  pub number : ℕ
  pub blocks : ℕ
  pub host : ℕ
  pub order : Order
  pub room : List ℕ

-- the lent room before the call
abbrev pub lent : Call → List ℕ
lent (request p f room) = room
lent (proof h p room) = room
lent (command p room) = room
lent (reply h n pay room) = room
lent (close h) = []
lent (revoke i e w) = []

-- an answer of number and count alone
abbrev pub bare : R.Answer → List ℕ → Said
bare a room = record { number = a.number; blocks = a.blocks; host = 0; order = no_order; room = room }

unfoldable pub answer : State → Call → Said
answer s (request p f room) = record {
  number = (requesting s.rights s.records s.names p f (length room)).answer.number;
  blocks = (requesting s.rights s.records s.names p f (length room)).answer.blocks;
  host = (requesting s.rights s.records s.names p f (length room)).host;
  order = no_order;
  room = request_room s.rights s.names p f room;
}
answer s (proof h p room) = bare (proving s.rights s.records h p (length room)).answer (proof_room s.rights s.records h p room)
answer s (command p room) = record {
  number = (command_heard s.rights s.records p room).number;
  blocks = (command_heard s.rights s.records p room).blocks;
  host = 0;
  order = (command_heard s.rights s.records p room).order;
  room = command_room s.rights s.records p room;
}
answer s (reply h n pay room) = bare (replying s.rights s.records h n pay (length room)).answer (reply_room s.rights s.records h n pay room)
answer s (close h) = bare (closing s.rights s.records h).answer []
answer s (revoke i e w) = bare (revoking s.rights i e w).answer []

abbrev pub with_records : State → Records → State
with_records s t = record { rights = s.rights; records = t; names = s.names; labels = s.labels }

abbrev pub with_rights : State → Rights → State
with_rights s r = record { rights = r; records = s.records; names = s.names; labels = s.labels }

unfoldable pub next : State → Call → State
next s (request p f room) = with_records s (requesting s.rights s.records s.names p f (length room)).records
next s (proof h p room) = with_records s (proving s.rights s.records h p (length room)).records
next s (command p room) = with_records s (commanding s.rights s.records p room).records
next s (reply h n pay room) = with_records s (replying s.rights s.records h n pay (length room)).records
next s (close h) = with_records s (closing s.rights s.records h).records
next s (revoke i e w) = with_rights s (revoking s.rights i e w).rights
