-- Document 01: "An accepted command's answer also carries its other inner fields"; it writes the payload; its number is the last one from then on, and
-- a reply is owed for it.
use Rattle.std.specs.Prelude.{◌≡◌, ◌≢◌, true, List, ℕ, ◌-◌}
use Rattle.octets.specs.Room.{at_start}
use Rattle.state.specs.declared.State.{State}
use Rattle.state.specs.declared.transitions.Phase.TheVariants.{Open}
use Rattle.state.specs.declared.transitions.Record.{Record}
use Rattle.state.specs.Flat.{record_of}
use Rattle.fields.specs.Command.{client_of, order_of, payload_of}
use Rattle.promises.specs.Places.{number_said, record_at}
use Rattle.promises.specs.Step.{command, answer, next}

-- an open record with n as its last number, and a reply owed for it
abbrev pub owing : Record → ℕ → Record
owing r n = record { phase = Open n true; challenge = r.challenge; key = r.key }

-- what the packet p with the text t is answered and leaves: the text's fields, the payload in the lent room, and the client's record with the text's
-- number; every other record is as it was
pub record Answered (s : State) (p room t : List ℕ) : Type 0 where
  pub order : (answer s (command p room)).order ≡ order_of t
  pub payload : (answer s (command p room)).room ≡ at_start (payload_of t) room
  pub client : record_at (next s (command p room)) (client_of p) ≡ owing (record_at s (client_of p)) (number_said t)
  pub others : (j : ℕ) → client_of p - 1 ≢ j → record_of (next s (command p room)).records j ≡ record_of s.records j
