-- FIPS 197, section 3.4: the state, four rows of four bytes; here the list of its bytes, column after column. So is a round
-- key, whose word c is the column c (section 3.5).
use Rattle.std.specs.Prelude.{ℕ, ◌+◌, ◌*◌, ◌%◌, List, [], ◌∷◌, get_or}

-- s_r,c with r and c modulo 4
abbrev pub cell : List ℕ → ℕ → ℕ → ℕ
cell s r c = get_or s (r % 4 + 4 * (c % 4)) 0

-- the state that has f r c in row r and column c
abbrev pub state : (ℕ → ℕ → ℕ) → List ℕ
state f =
    f 0 0 ∷ f 1 0 ∷ f 2 0 ∷ f 3 0
    ∷ f 0 1 ∷ f 1 1 ∷ f 2 1 ∷ f 3 1
    ∷ f 0 2 ∷ f 1 2 ∷ f 2 2 ∷ f 3 2
    ∷ f 0 3 ∷ f 1 3 ∷ f 2 3 ∷ f 3 3 ∷ []
