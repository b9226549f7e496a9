-- Document 01, "Handshake": one host's record, its five transitions, and its phase in two numbers.
use Rattle.std.specs.Prelude.{ℕ, true, false, List, eqb, replicate}
use Rattle.octets.specs.Checks.{pick}
use Rattle.state.specs.declared.transitions.Phase.{Phase}
use Rattle.state.specs.declared.transitions.Phase.TheVariants.{Idle, Waiting, Open}
use Rattle.state.specs.declared.transitions.Record.{Record}

abbrev pub zeros : List ℕ
zeros = replicate 16 0

-- "Close makes a record idle from any state": challenge and key are wiped
abbrev pub closed : Record
closed = record { phase = Idle; challenge = zeros; key = zeros }

-- request: waiting with challenge 2; an earlier connection ends there
abbrev pub requested : List ℕ → Record
requested c = record { phase = Waiting; challenge = c; key = zeros }

-- proof: open under the key with last number 0 and no reply owed
abbrev pub proved : List ℕ → Record
proved k = record { phase = Open 0 false; challenge = zeros; key = k }

-- an accepted command of an open connection: its number is the last one, and a reply is owed for it
abbrev pub accepted_phase : Phase → ℕ → Phase
accepted_phase Idle n = Idle
accepted_phase Waiting n = Waiting
accepted_phase (Open m owed) n = Open n true

abbrev pub accepted : Record → ℕ → Record
accepted r n = record { phase = accepted_phase r.phase n; challenge = r.challenge; key = r.key }

-- a claimed reply: none is owed any more
abbrev pub replied_phase : Phase → Phase
replied_phase Idle = Idle
replied_phase Waiting = Waiting
replied_phase (Open n owed) = Open n false

abbrev pub replied : Record → Record
replied r = record { phase = replied_phase r.phase; challenge = r.challenge; key = r.key }

-- a phase in two numbers: tag 1 waiting, 2 open, 3 open with a reply owed, any other idle; and the last number
abbrev pub phase_of : ℕ → ℕ → Phase
phase_of t n = pick (eqb t 1) Waiting (pick (eqb t 2) (Open n false) (pick (eqb t 3) (Open n true) Idle))

abbrev pub tag_of : Phase → ℕ
tag_of Idle = 0
tag_of Waiting = 1
tag_of (Open n false) = 2
tag_of (Open n true) = 3

abbrev pub last_of : Phase → ℕ
last_of Idle = 0
last_of Waiting = 0
last_of (Open n owed) = n
