-- What `seal` and `open` answer and leave in the lent room, by whether the room holds the text (`fits` of octets): where it
-- doesn't, nothing is enciphered and nothing is written. And document 01's numbers for what they answer.
use Rattle.std.specs.Prelude.{ℕ, Bool, true, false, List, length, Option, None, Some, Result, Ok, Err}
use Rattle.octets.specs.Room.{at_start}
use Rattle.gcm.specs.Gcm.{zeros, Sealed, Opened, fail, plain}
use Rattle.gcm.specs.declared.Sealed as Handed
use Rattle.gcm.specs.declared.Unopened.{Unopened}
use Rattle.gcm.specs.declared.Unopened.TheVariants as Why

-- what `seal` answers: whether the room holds the text; the tag and how many blocks were enciphered, 0s where it doesn't
pub record Sealing : Type 0 where
  pub sealed : Bool
  pub tag : List ℕ
  pub blocks : ℕ

-- what `open` answers: the room is shorter than the text; or the tag is wrong; or the text was opened. With the number of
-- blocks enciphered
pub data Opening : Type 0 where
  Short : Opening
  Fail : ℕ → Opening
  Plain : ℕ → Opening

-- read out of what the calls hand back
abbrev pub sealed_in : Option Handed.Sealed → Sealing
sealed_in (Some s) = record { sealed = true; tag = s.tag; blocks = s.blocks }
sealed_in None = record { sealed = false; tag = zeros; blocks = 0 }

abbrev pub opened_in : Result ℕ Unopened → Opening
opened_in (Ok n) = Plain n
opened_in (Err Why.Short) = Short
opened_in (Err (Why.TagWrong n)) = Fail n

unfoldable pub sealing : Bool → Sealed → Sealing
sealing true s = record { sealed = true; tag = s.tag; blocks = length s.enciphered }
sealing false s = record { sealed = false; tag = zeros; blocks = 0 }

unfoldable pub room_sealed : Bool → Sealed → List ℕ → List ℕ
room_sealed true s room = at_start s.bytes room
room_sealed false s room = room

unfoldable pub opening : Bool → Opened → Opening
opening true (plain p bs) = Plain (length bs)
opening true (fail bs) = Fail (length bs)
opening false o = Short

unfoldable pub room_opened : Bool → Opened → List ℕ → List ℕ
room_opened true (plain p bs) room = at_start p room
room_opened true (fail bs) room = room
room_opened false o room = room

-- document 01's number and count for each answer of `seal` (by whether the room holds the text) and of `open`
unfoldable pub seal_number : Bool → ℕ
seal_number true = 0
seal_number false = 7

unfoldable pub open_number : Opening → ℕ
open_number Short = 7
open_number (Fail n) = 8
open_number (Plain n) = 0

unfoldable pub open_blocks : Opening → ℕ
open_blocks Short = 0
open_blocks (Fail n) = n
open_blocks (Plain n) = n
