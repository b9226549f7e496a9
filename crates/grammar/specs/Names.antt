-- Document 01, "The book": "Names: 1 to 256 bytes of letters, digits, - _ + . / and, inside only, space." Sample P10 computes from these.
use Rattle.std.specs.Prelude.{ℕ, suc, ◌-◌, Bool, true, not, ◌&&◌, ◌||◌, List, [], ◌∷◌, ltb, eqb, length, get_or}
use Rattle.octets.specs.Range.{between}

-- A to Z, a to z, 0 to 9, - _ + . /
unfoldable pub letter : ℕ → Bool
letter c =
    between 65 90 c || (between 97 122 c || (between 48 57 c
    || (eqb c 45 || (eqb c 95 || (eqb c 43 || (eqb c 46 || eqb c 47))))))

-- a space that is neither the first nor the last byte of s
unfoldable pub inner_space : List ℕ → ℕ → Bool
inner_space s k = eqb (get_or s k 0) 32 && (ltb 0 k && ltb (suc k) (length s))

-- byte k of the name s may stand there
unfoldable pub fitting : List ℕ → ℕ → Bool
fitting s k = letter (get_or s k 0) || inner_space s k

-- ---- the code's first pass over a name: no public contract names these

-- what may stand inside a name
unfoldable pub inner : ℕ → Bool
inner c = letter c || eqb c 32

unfoldable pub all_inner : List ℕ → Bool
all_inner [] = true
all_inner (c ∷ s) = inner c && all_inner s

-- a name whose bytes may all stand where they do, with no space at its ends, or none at all
unfoldable pub plain : List ℕ → Bool
plain s = eqb (length s) 0 || (not (eqb (get_or s 0 0) 32) && (not (eqb (get_or s (length s - 1) 0) 32) && all_inner s))
