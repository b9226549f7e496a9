-- `gcm::authentic` meets its contract: what is compared is the tag.
use mathlib.Core.Path.{◌≡◌}
use mathlib.Core.Bool.{Bool}
use mathlib.Core.List.{List}
use Prim.Native.Nat.{ℕ}
use Rattle.octets.specs.Same.{same}
use Rattle.gcm.proofs.authentic.Goals as goal

-- a comparison with what is equal to x
compared : (r : Bool) (x y t : List ℕ) → r ≡ same x t → x ≡ y → r ≡ same y t
compared r x y t e h = rw (← h) e

pub returns : goal.returns
returns c = compared _ _ _ _ c.equal.ensures c.tag-e.ensures
