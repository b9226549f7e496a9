-- The words of the code: a word is the number that four bytes make, the first lowest.
use Rattle.std.specs.Prelude.{ℕ, ◌/◌, ◌%◌, List, [], ◌∷◌, ◌++◌}
use Rattle.aes.specs.Cipher.{mixed}
use Rattle.aes.specs.declared.words.Words.{Words}

-- the four bytes of a word
abbrev pub b0 : ℕ → ℕ
b0 w = w % 256

abbrev pub b1 : ℕ → ℕ
b1 w = w / 256 % 256

abbrev pub b2 : ℕ → ℕ
b2 w = w / 65536 % 256

abbrev pub b3 : ℕ → ℕ
b3 w = w / 16777216 % 256

abbrev pub bytes_of : ℕ → List ℕ
bytes_of w = b0 w ∷ b1 w ∷ b2 w ∷ b3 w ∷ []

-- the sixteen bytes of four words
abbrev pub bytes : Words → List ℕ
bytes w = bytes_of w.a ++ bytes_of w.b ++ bytes_of w.c ++ bytes_of w.d

-- a column after MIXCOLUMNS
abbrev pub column_mixed : ℕ → ℕ → ℕ → ℕ → List ℕ
column_mixed a b c d = mixed a b c d ∷ mixed b c d a ∷ mixed c d a b ∷ mixed d a b c ∷ []
