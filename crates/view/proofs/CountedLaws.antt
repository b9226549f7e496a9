-- Numbers that are counted from 1: what there being such a thing says, and where it stands.
use mathlib.Core.Path.{◌≡◌}
use mathlib.Core.Bool.{true, false, true≢false}
use Prim.Native.Nat.{ℕ, zero, suc, ◌+◌, ◌-◌, ◌≤◌}
use native.Mathlib.Omega.{arith}
use borrow.Author.Tests.{ltb-false}
use Rattle.octets.proofs.CheckLaws.{pick_ind}
use Rattle.view.specs.Counted.{no_such, place}

pub such : (n count : ℕ) → no_such n count ≡ false → (1 ≤ n) × (n ≤ count)
unfolding no_such
such zero count e = absurd (true≢false e)
such (suc n) count e = (omega arith, ltb-false count (suc n) e)

module _ (n count past : ℕ) where
  pub place-there : no_such n count ≡ false → place n count past ≡ n - 1
  unfolding place
  place-there e = rw e

  pub place_none : no_such n count ≡ true → place n count past ≡ past
  unfolding place
  place_none e = rw e

  -- a place is small where the number and `past` are
  pub place-low : place n count past ≤ n + past
  unfolding place
  place-low = pick_ind (λ m. m ≤ n + past) (no_such n count) (λ e. omega arith) (omega arith)
