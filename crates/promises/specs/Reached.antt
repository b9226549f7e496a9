-- "A genuine capability (reached from the issued one by narrowings)": document 01, "Issuing gives four all-ones words and the first secret. Narrowing
-- puts a word in the first all-ones place and moves the secret one step, without the master secret."
use Rattle.std.specs.Prelude.{◌≡◌, ◌≢◌, true, List, ℕ, ◌<◌, ◌^◌}
use Rattle.capability.specs.Bytes.{four_at, open?}
use Rattle.capability.specs.Calls.{issued, narrowing}
use Rattle.capability.specs.Chain.{all_ones}

-- the capabilities with that ID under a master secret: the issued one, and each that one of them is narrowed to, by a word that isn't all ones while an
-- all-ones word is left ("Narrow: 28, 32, 31, 7.")
pub data Reached (master : List ℕ) (id : ℕ) : List ℕ → Type 0 where
  by-issue : Reached master id (issued master id)
  by-narrowing : (c : List ℕ) (w : ℕ) → Reached master id c → w < 2 ^ 64 → w ≢ all_ones → open? (four_at c 2) ≡ true
      → Reached master id (narrowing c w)
