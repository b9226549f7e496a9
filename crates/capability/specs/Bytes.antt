-- Document 01, "Capability": "ID (2), four words, secret (16): 50 bytes."
use Rattle.std.specs.Prelude.{ℕ, ◌+◌, ◌*◌, Bool, false, ◌||◌, List, [], ◌∷◌, ◌++◌, eqb}
use Rattle.octets.specs.Checks.{pick}
use Rattle.octets.specs.Little.{number, octets}
use Rattle.octets.specs.Room.{part}
use Rattle.capability.specs.Chain.{all_ones}

unfoldable pub id_of : List ℕ → ℕ
id_of c = number (part c 0 2)

-- word k of bytes in which words stand from `at` on
unfoldable pub word_at : List ℕ → ℕ → ℕ → ℕ
word_at c at k = number (part c (at + 8 * k) 8)

-- four words from `at` on
abbrev pub four_at : List ℕ → ℕ → List ℕ
four_at c at = word_at c at 0 ∷ word_at c at 1 ∷ word_at c at 2 ∷ word_at c at 3 ∷ []

unfoldable pub secret_of : List ℕ → List ℕ
secret_of c = part c 34 16

-- words as bytes, one after the other
unfoldable pub word_bytes : List ℕ → List ℕ
word_bytes [] = []
word_bytes (w ∷ ws) = octets 8 w ++ word_bytes ws

unfoldable pub capability : ℕ → List ℕ → List ℕ → List ℕ
capability id ws secret = octets 2 id ++ word_bytes ws ++ secret

-- "Narrowing puts a word in the first all-ones place"
unfoldable pub narrowed : ℕ → List ℕ → List ℕ
narrowed w [] = []
narrowed w (x ∷ xs) = pick (eqb x all_ones) (w ∷ xs) (x ∷ narrowed w xs)

-- an all-ones word is left
unfoldable pub open? : List ℕ → Bool
open? [] = false
open? (x ∷ xs) = eqb x all_ones || open? xs
