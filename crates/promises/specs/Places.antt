-- Where document 01's fields stand: in a command's packet and in its text (000, figure 2), and in the arrays of a state. Hosts, interfaces and entries
-- count from 1, places in arrays from 0.
use Rattle.std.specs.Prelude.{List, [], ◌∷◌, ℕ, ◌+◌, ◌*◌, ◌-◌, get_or}
use Rattle.octets.specs.Room.{part, number_at}
use Rattle.state.specs.declared.State.{State}
use Rattle.state.specs.declared.Rights.{Rights}
use Rattle.state.specs.declared.transitions.Record.{Record}
use Rattle.state.specs.Flat.{record_of}

-- "Open part, 32 bytes: client ID (2), zeros (2), initial vector (12), tag (16)." The client ID, the additional data, the encrypted part and a text's
-- payload have their names in `fields` (`client_of`, `additional`, `encrypted`, `payload_of`).
abbrev pub zeros_shown : List ℕ → List ℕ
zeros_shown p = part p 2 2

abbrev pub vector_shown : List ℕ → List ℕ
vector_shown p = part p 4 12

abbrev pub tag_shown : List ℕ → List ℕ
tag_shown p = part p 16 16

-- "Encrypted part: client ID, sequence number, group, interface, capability ID, payload length (2 each), command ID (1), zeros (3), four reduction
-- words (8 each), secret (16), payload."
abbrev pub client_said : List ℕ → ℕ
client_said t = number_at t 0 2

abbrev pub number_said : List ℕ → ℕ
number_said t = number_at t 2 2

abbrev pub group_said : List ℕ → ℕ
group_said t = number_at t 4 2

abbrev pub interface_said : List ℕ → ℕ
interface_said t = number_at t 6 2

abbrev pub entry_said : List ℕ → ℕ
entry_said t = number_at t 8 2

abbrev pub length_said : List ℕ → ℕ
length_said t = number_at t 10 2

abbrev pub command_said : List ℕ → ℕ
command_said t = number_at t 12 1

abbrev pub zeros_said : List ℕ → List ℕ
zeros_said t = part t 13 3

abbrev pub words_said : List ℕ → List ℕ
words_said t = number_at t 16 8 ∷ number_at t 24 8 ∷ number_at t 32 8 ∷ number_at t 40 8 ∷ []

abbrev pub secret_said : List ℕ → List ℕ
secret_said t = part t 48 16

-- of host h: its group and its record
abbrev pub group_of : Rights → ℕ → ℕ
group_of r h = get_or r.groups (h - 1) 0

abbrev pub record_at : State → ℕ → Record
record_at s h = record_of s.records (h - 1)

-- of interface i: its command count, its entry count and its master secret
abbrev pub commands_of : Rights → ℕ → ℕ
commands_of r i = get_or r.commands (i - 1) 0

abbrev pub entries_of : Rights → ℕ → ℕ
entries_of r i = get_or r.entries (i - 1) 0

abbrev pub master_of : Rights → ℕ → List ℕ
master_of r i = part r.secrets ((i - 1) * 16) 16

-- of its entry e: where it stands, its group and its present word
abbrev pub entry_at : ℕ → ℕ → ℕ
entry_at i e = (i - 1) * 16 + (e - 1)

abbrev pub owner_of : Rights → ℕ → ℕ → ℕ
owner_of r i e = get_or r.owners (entry_at i e) 0

abbrev pub word_of : Rights → ℕ → ℕ → ℕ
word_of r i e = get_or r.words (entry_at i e) 0
