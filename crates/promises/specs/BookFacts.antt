-- Document 01, "The book" and "Book, each with the offset of the fault.": the facts that make a book acceptable, in the document's order, each with
-- the number and the place that are given where it fails. Nothing here runs the load. Rows and entries are counted from 0.
use Rattle.std.specs.Prelude.{◌≡◌, ◌⊎◌, ◌≢◌, List, [], ◌∷◌, ◌++◌, ℕ, zero, suc, ◌+◌, ◌*◌, ◌-◌, ◌≤◌, ◌<◌, length, get_or}
use Rattle.octets.specs.Room.{number_at, part}
use Rattle.promises.specs.Among.{Listed}
use Rattle.promises.specs.PlacedRules.{PlacedRule, ◌at◌unless◌, one_by_one}
use Rattle.promises.specs.Stands.{BitSet}

-- ---- where the numbers stand

-- "Head, 8 bytes: format 1 (2), rows n (2), total length (4)."
abbrev pub row_count : (book : List ℕ) → ℕ
row_count b = number_at b 2 2

abbrev pub total_said : (book : List ℕ) → ℕ
total_said b = number_at b 4 4

-- "n rows of 12: kind (2; 1 host, 2 interface), id (2), start (4), length (4)."
abbrev pub row_at : (i : ℕ) → ℕ
row_at i = 8 + 12 * i

abbrev pub kind_said : (book : List ℕ) (i : ℕ) → ℕ
kind_said b i = number_at b (row_at i) 2

abbrev pub id_said : (book : List ℕ) (i : ℕ) → ℕ
id_said b i = number_at b (row_at i + 2) 2

abbrev pub start_said : (book : List ℕ) (i : ℕ) → ℕ
start_said b i = number_at b (row_at i + 4) 4

abbrev pub size_said : (book : List ℕ) (i : ℕ) → ℕ
size_said b i = number_at b (row_at i + 8) 4

-- "Interface body: master secret (16), command count (2; 1 to 64), entry count e (2; 1 to 16), e entries of group (2; 0 is anyone) and permitted
-- word (8), name."
abbrev pub commands_said : (book : List ℕ) (i : ℕ) → ℕ
commands_said b i = number_at b (start_said b i + 16) 2

abbrev pub entries_said : (book : List ℕ) (i : ℕ) → ℕ
entries_said b i = number_at b (start_said b i + 18) 2

abbrev pub word_place : (book : List ℕ) (i j : ℕ) → ℕ
word_place b i j = start_said b i + 22 + 10 * j

abbrev pub permitted_said : (book : List ℕ) (i j : ℕ) → ℕ
permitted_said b i j = number_at b (word_place b i j) 8

-- of a host's body the first, of an interface's the second (no other kind comes so far: the rows are judged before)
module _ {ℓ} {A : Type ℓ} where
  abbrev pub by_kind : (kind : ℕ) (host interface : A) → A
  by_kind zero x y = y
  by_kind (suc zero) x y = x
  by_kind (suc (suc k)) x y = y

-- "Host body: group (2; 0 is none), name.": how many bytes stand before the name in body i
abbrev pub before_name : (book : List ℕ) (i : ℕ) → ℕ
before_name b i = by_kind (kind_said b i) 2 (20 + 10 * entries_said b i)

abbrev pub name_place : (book : List ℕ) (i : ℕ) → ℕ
name_place b i = start_said b i + before_name b i

abbrev pub name_length : (book : List ℕ) (i : ℕ) → ℕ
name_length b i = size_said b i - before_name b i

abbrev pub name_said : (book : List ℕ) (i : ℕ) → List ℕ
name_said b i = part b (name_place b i) (name_length b i)

-- ---- the head

-- "40: below 8 or above 12,232 bytes (0), total not the length (4). 41: format (0). 42: rows 0, above 40, or past the end (2)."
abbrev pub head_facts : (book : List ℕ) → List PlacedRule
head_facts b =
    40 at 0 unless (8 ≤ length b)
    ∷ 40 at 0 unless (length b ≤ 12232)
    ∷ 40 at 4 unless (total_said b ≡ length b)
    ∷ 41 at 0 unless (number_at b 0 2 ≡ 1)
    ∷ 42 at 2 unless (1 ≤ row_count b)
    ∷ 42 at 2 unless (row_count b ≤ 40)
    ∷ 42 at 2 unless (row_at (row_count b) ≤ length b)
    ∷ []

-- ---- the rows

-- the rows of row i's kind before it are those from row f on, without a gap
pub record Run (b : List ℕ) (i f : ℕ) : Type 0 where
  pub begins : f ≤ i
  pub alike : (j : ℕ) → f ≤ j → j < i → kind_said b j ≡ kind_said b i
  pub others : (j : ℕ) → j < f → kind_said b j ≢ kind_said b i

-- "Hosts first, 1 to 32; then interfaces, 0 to 8.": row i is a host after hosts alone, or an interface after a host
pub record InTurn (b : List ℕ) (i : ℕ) : Type 0 where
  pub from : ℕ
  pub run : Run b i from
  pub turn : ((kind_said b i ≡ 1) × (from ≡ 0) × (i < 32)) ⊎ ((kind_said b i ≡ 2) × (1 ≤ from) × (i < from + 8))

-- "Ids run from 1 within a kind."
pub record Counted (b : List ℕ) (i : ℕ) : Type 0 where
  pub from : ℕ
  pub run : Run b i from
  pub count : id_said b i ≡ i - from + 1

-- "The first body starts at 8+12n, each next where the last ended"
abbrev pub Follows : (book : List ℕ) (i : ℕ) → Type 0
Follows b zero = start_said b 0 ≡ row_at (row_count b)
Follows b (suc i) = start_said b (suc i) ≡ start_said b i + size_said b i

-- a host body's "Length 3 to 258", an interface body's "Length 31 to 436"
abbrev pub Sized : (kind size : ℕ) → Type 0
Sized k n = ((k ≡ 1) × (3 ≤ n) × (n ≤ 258)) ⊎ ((k ≡ 2) × (31 ≤ n) × (n ≤ 436))

-- "43 kind, its order or its limit (row), id (row+2); 44 start (row+4), length out of range, past the total, or the last row not ending there
-- (row+8)."
abbrev pub row_facts : (book : List ℕ) (i : ℕ) → List PlacedRule
row_facts b i =
    43 at row_at i unless InTurn b i
    ∷ 43 at (row_at i + 2) unless Counted b i
    ∷ 44 at (row_at i + 4) unless Follows b i
    ∷ 44 at (row_at i + 8) unless Sized (kind_said b i) (size_said b i)
    ∷ 44 at (row_at i + 8) unless (start_said b i + size_said b i ≤ total_said b)
    ∷ 44 at (row_at i + 8) unless (i + 1 ≡ row_count b → start_said b i + size_said b i ≡ total_said b)
    ∷ []

-- ---- the bodies

-- "45 command count (body+16), entry count, or entries that leave no name or one above 256 (body+18)"
abbrev pub count_facts : (book : List ℕ) (i : ℕ) → List PlacedRule
count_facts b i =
    45 at (start_said b i + 16) unless ((1 ≤ commands_said b i) × (commands_said b i ≤ 64))
    ∷ 45 at (start_said b i + 18) unless ((1 ≤ entries_said b i) × (entries_said b i ≤ 16))
    ∷ 45 at (start_said b i + 18) unless ((20 + 10 * entries_said b i + 1 ≤ size_said b i) × (size_said b i ≤ 20 + 10 * entries_said b i + 256))
    ∷ []

-- "46 a permitted bit at or above the command count (that word)": entry j
abbrev pub word_facts : (book : List ℕ) (i j : ℕ) → List PlacedRule
word_facts b i j = 46 at word_place b i j unless ((bit : ℕ) → commands_said b i ≤ bit → ¬ BitSet bit (permitted_said b i j)) ∷ []

-- "letters, digits, - _ + . /": A to Z, a to z, 0 to 9, and those five
abbrev pub IsLetter : (byte : ℕ) → Type 0
IsLetter c =
    ((65 ≤ c) × (c ≤ 90)) ⊎ ((97 ≤ c) × (c ≤ 122)) ⊎ ((48 ≤ c) × (c ≤ 57)) ⊎ Listed (45 ∷ 95 ∷ 43 ∷ 46 ∷ 47 ∷ []) c

-- "and, inside only, space": byte k of a name of m bytes
abbrev pub MayStand : (byte k m : ℕ) → Type 0
MayStand c k m = IsLetter c ⊎ ((c ≡ 32) × (1 ≤ k) × (suc k < m))

-- "47 first bad letter": byte k of a name of m bytes at that place
abbrev pub letter_facts : (book : List ℕ) (place m k : ℕ) → List PlacedRule
letter_facts b place m k = 47 at (place + k) unless MayStand (get_or b (place + k) 0) k m ∷ []

-- "48 name used before in its kind (its first byte)"
abbrev pub Unused : (book : List ℕ) (i : ℕ) → Type 0
Unused b i = (j : ℕ) → j < i → kind_said b j ≡ kind_said b i → name_said b j ≢ name_said b i

abbrev pub name_facts : (book : List ℕ) (i : ℕ) → List PlacedRule
name_facts b i = one_by_one (letter_facts b (name_place b i) (name_length b i)) 0 (name_length b i) ++ 48 at name_place b i unless Unused b i ∷ []

-- "Then body by body"; of a host's body nothing is judged before its name
abbrev pub body_facts : (book : List ℕ) (i : ℕ) → List PlacedRule
body_facts b i = by_kind (kind_said b i) [] (count_facts b i ++ one_by_one (word_facts b i) 0 (entries_said b i)) ++ name_facts b i

-- the head, "Then row by row", "Then body by body"
unfoldable pub book_facts : (book : List ℕ) → List PlacedRule
book_facts b = head_facts b ++ one_by_one (row_facts b) 0 (row_count b) ++ one_by_one (body_facts b) 0 (row_count b)
