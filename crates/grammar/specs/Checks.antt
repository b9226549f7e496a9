-- Document 01, "Numbers of refusal", the book: the checks of a book in the document's order, each with its place.
use Rattle.std.specs.Prelude.{ℕ, zero, suc, ◌+◌, ◌*◌, ◌-◌, ◌^◌, Bool, false, not, ◌&&◌, ◌||◌, List, [], ◌∷◌, ◌++◌, ltb, eqb, length}
use Rattle.octets.specs.Checks.{pick}
use Rattle.octets.specs.Same.{same}
use Rattle.octets.specs.Range.{between}
use Rattle.layout.specs.Layout.{format, rows, total, row, kind, id, start, size, hosts_before, expected, commands, entries, word, name_start, name}
use Rattle.grammar.specs.Names.{fitting}
use Rattle.grammar.specs.Faults.{Fault, Check, ◌at◌when◌, first, each}

-- "40: below 8 or above 12,232 bytes (0), total not the length (4). 41: format (0). 42: rows 0, above 40, or past the end (2)."
abbrev pub head_checks : List ℕ → List Check
head_checks b =
    40 at 0 when (ltb (length b) 8)
    ∷ 40 at 0 when (ltb 12232 (length b))
    ∷ 40 at 4 when not (eqb (total b) (length b))
    ∷ 41 at 0 when not (eqb (format b) 1)
    ∷ 42 at 2 when eqb (rows b) 0
    ∷ 42 at 2 when ltb 40 (rows b)
    ∷ 42 at 2 when ltb (length b) (row (rows b))
    ∷ []

-- "Hosts first, 1 to 32; then interfaces, 0 to 8": row i of kind k may stand there where h of the rows before it are hosts
unfoldable pub kind_fits : ℕ → ℕ → ℕ → Bool
kind_fits k i h = (eqb k 1 && (eqb h i && ltb i 32)) || (eqb k 2 && (ltb 0 h && ltb (i - h) 8))

-- "Ids run from 1 within a kind."
unfoldable pub ordinal : ℕ → ℕ → ℕ → ℕ
ordinal k i h = pick (eqb k 1) (i + 1) (i - h + 1)

-- a host body's length is 3 to 258, an interface body's 31 to 436
unfoldable pub size_fits : ℕ → ℕ → Bool
size_fits k n = pick (eqb k 1) (between 3 258 n) (between 31 436 n)

-- where body i ends: "past the total, or the last row not ending there (row+8)"
abbrev pub end_checks : List ℕ → ℕ → ℕ → List Check
end_checks b i e =
    44 at (row i + 8) when ltb (total b) e
    ∷ 44 at (row i + 8) when (eqb (i + 1) (rows b) && not (eqb e (total b)))
    ∷ []

-- "Then row by row: 43 kind, its order or its limit (row), id (row+2)"
abbrev pub identity_checks : List ℕ → ℕ → List Check
identity_checks b i =
    43 at row i when not (kind_fits (kind b i) i (hosts_before b i))
    ∷ 43 at (row i + 2) when not (eqb (id b i) (ordinal (kind b i) i (hosts_before b i)))
    ∷ []

-- "44 start (row+4), length out of range, past the total, or the last row not ending there (row+8)"
abbrev pub place_checks : List ℕ → ℕ → List Check
place_checks b i =
    44 at (row i + 4) when not (eqb (start b i) (expected b i))
    ∷ 44 at (row i + 8) when not (size_fits (kind b i) (size b i))
    ∷ end_checks b i (start b i + size b i)

abbrev pub row_checks : List ℕ → ℕ → List Check
row_checks b i = identity_checks b i ++ place_checks b i

-- "entries that leave no name or one above 256 (body+18)"
abbrev pub span_checks : List ℕ → ℕ → List Check
span_checks b i =
    45 at (start b i + 18) when not (between (21 + 10 * entries b i) (276 + 10 * entries b i) (size b i))
    ∷ []

-- 45: command count (body+16), entry count (body+18)
abbrev pub count_checks : List ℕ → ℕ → List Check
count_checks b i =
    45 at (start b i + 16) when not (between 1 64 (commands b i))
    ∷ 45 at (start b i + 18) when not (between 1 16 (entries b i))
    ∷ span_checks b i

-- "46 a permitted bit at or above the command count (that word)": entry j
abbrev pub word_checks : List ℕ → ℕ → ℕ → List Check
word_checks b i j = 46 at (start b i + 22 + 10 * j) when not (ltb (word b i j) (2 ^ commands b i)) ∷ []

-- "47 first bad letter": byte k of the name s, which stands at p
abbrev pub letter_checks : ℕ → List ℕ → ℕ → List Check
letter_checks p s k = 47 at (p + k) when not (fitting s k) ∷ []

-- "Compared byte for byte, unique within a kind": one of the first j rows has kind and name of row i
unfoldable pub used_below : List ℕ → ℕ → ℕ → Bool
used_below b i zero = false
used_below b i (suc j) = used_below b i j || (eqb (kind b j) (kind b i) && same (name b j) (name b i))

-- "48 name used before in its kind (its first byte)"
unfoldable pub name_checks : List ℕ → ℕ → List Check
name_checks b i = each (letter_checks (name_start b i) (name b i)) 0 (length (name b i)) ++ 48 at name_start b i when used_below b i i ∷ []

-- what is judged of an interface alone
unfoldable pub interface_checks : List ℕ → ℕ → List Check
interface_checks b i = count_checks b i ++ each (word_checks b i) 0 (entries b i)

-- "Then body by body"
unfoldable pub body_checks : List ℕ → ℕ → List Check
body_checks b i = pick (eqb (kind b i) 1) [] (interface_checks b i) ++ name_checks b i

-- the first fault of a book: its head, then row by row, then body by body
unfoldable pub fault_of : List ℕ → Fault
fault_of b = first (head_checks b ++ each (row_checks b) 0 (rows b) ++ each (body_checks b) 0 (rows b))
