-- Document 01, "Command packet" (000, figure 2). "Open part, 32 bytes: client ID (2), zeros (2), initial vector (12), tag (16). Encrypted
-- part: client ID, sequence number, group, interface, capability ID, payload length (2 each), command ID (1), zeros (3), four reduction
-- words (8 each), secret (16), payload. Additional authenticated data: the first four bytes."
use Rattle.std.specs.Prelude.{ℕ, List, [], ◌∷◌, ◌++◌, drop}
use Rattle.octets.specs.Little.{octets}
use Rattle.octets.specs.Room.{part, number_at, filled}
use Rattle.capability.specs.Bytes.{four_at}
use Rattle.fields.specs.declared.Order.{Order}

-- the open part of a packet
abbrev pub client_of : List ℕ → ℕ
client_of p = number_at p 0 2

abbrev pub open_zeros : List ℕ → ℕ
open_zeros p = number_at p 2 2

abbrev pub additional : List ℕ → List ℕ
additional p = part p 0 4

abbrev pub vector_of : List ℕ → List ℕ
vector_of p = filled 12 p 4

abbrev pub tag_in : List ℕ → List ℕ
tag_in p = filled 16 p 16

abbrev pub encrypted : List ℕ → List ℕ
encrypted p = drop 32 p

-- what the text of a packet says
unfoldable pub order_of : List ℕ → Order
order_of t = record {
  client = number_at t 0 2;
  sequence = number_at t 2 2;
  group = number_at t 4 2;
  interface = number_at t 6 2;
  capability = number_at t 8 2;
  length = number_at t 10 2;
  command = number_at t 12 1;
  zeros = number_at t 13 3;
  words = four_at t 16;
  secret = filled 16 t 48;
}

abbrev pub payload_of : List ℕ → List ℕ
payload_of t = drop 64 t

-- the text up to the reduction words, laid out
unfoldable pub command_lead : ℕ → ℕ → ℕ → ℕ → ℕ → ℕ → ℕ → List ℕ
command_lead client sequence group interface capability length command =
    octets 2 client ++ octets 2 sequence ++ octets 2 group ++ octets 2 interface ++ octets 2 capability ++ octets 2 length
    ++ command ∷ 0 ∷ 0 ∷ 0 ∷ []

-- the additional data of a command of that client
unfoldable pub open_lead : ℕ → List ℕ
open_lead client = octets 2 client ++ 0 ∷ 0 ∷ []
