-- A block that was enciphered, and the key it was enciphered under. Document 01, "Blocks counted": the definitions list the blocks they
-- encipher, and the count is that list's length.
use Rattle.std.specs.Prelude.{ℕ, zero, suc, List, [], map}

pub record Enciphered : Type 0 where
  pub key : List ℕ
  pub block : List ℕ

-- blocks that were all enciphered under one key
abbrev pub under_key : List ℕ → List (List ℕ) → List Enciphered
under_key k bs = map (λ (b : List ℕ). record { key = k; block = b }) bs

-- what is enciphered past a check that answers with that number: nothing where it refuses
abbrev pub past : ℕ → List Enciphered → List Enciphered
past zero bs = bs
past (suc n) bs = []
