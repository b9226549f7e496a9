-- Document 01, "Handshake": what a record's phase answers to the checks.
use Rattle.std.specs.Prelude.{ℕ, Bool, true, false, ◌&&◌, eqb, ltb}
use Rattle.state.specs.declared.transitions.Phase.{Phase}
use Rattle.state.specs.declared.transitions.Phase.TheVariants.{Idle, Waiting, Open}

abbrev pub is_waiting : Phase → Bool
is_waiting Idle = false
is_waiting Waiting = true
is_waiting (Open last owed) = false

abbrev pub is_open : Phase → Bool
is_open Idle = false
is_open Waiting = false
is_open (Open last owed) = true

-- "A number is fresh if greater than the last accepted."
abbrev pub fresh : Phase → ℕ → Bool
fresh Idle n = false
fresh Waiting n = false
fresh (Open last owed) n = ltb last n

-- "One reply for the last accepted command, once": a reply is owed for number n
abbrev pub owes : Phase → ℕ → Bool
owes Idle n = false
owes Waiting n = false
owes (Open last owed) n = owed && eqb last n
