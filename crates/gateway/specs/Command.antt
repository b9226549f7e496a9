-- Document 01: command. The check is crate command's, over the view of the host that the packet's open part names. An accepted command's
-- number is the last one from then on, and a reply is owed for it.
use Rattle.std.specs.Prelude.{ℕ, List, Result, Ok, Err}
use Rattle.refusal.specs.declared.Refused.{Refused}
use Rattle.state.specs.declared.Rights.{Rights}
use Rattle.state.specs.declared.Records.{Records}
use Rattle.state.specs.Records.{accepted}
use Rattle.view.specs.View.{see}
use Rattle.fields.specs.Command.{client_of}
use Rattle.command.specs.Heard.{Heard, heard_in, heard, heard_room}
use Rattle.gateway.specs.Common.{moved}
use Rattle.gateway.specs.declared.commanding.Commanded as Code

-- the answer with the command's fields
unfoldable pub command_heard : Rights → Records → List ℕ → List ℕ → Heard
command_heard r s p room = heard (see r s (client_of p)) r p room

-- and the records after the call
pub record Commanded : Type 0 where
  pub heard : Heard
  pub records : Records

-- read out of what the call hands back, of the records at entry
abbrev pub commanded_in : Records → Result Code.Commanded Refused → Commanded
commanded_in s (Ok c) = record { heard = heard_in (Ok c.heard); records = c.records }
commanded_in s (Err r) = record { heard = heard_in (Err r); records = s }

unfoldable pub commanding : Rights → Records → List ℕ → List ℕ → Commanded
commanding r s p room = record {
  heard = command_heard r s p room;
  records = moved (command_heard r s p room).number s (client_of p)
      (accepted (see r s (client_of p)).held (command_heard r s p room).order.sequence);
}

-- the lent room after the call
unfoldable pub command_room : Rights → Records → List ℕ → List ℕ → List ℕ
command_room r s p room = heard_room (see r s (client_of p)) r p room
