-- A test that passes at each number below n, and the run of `0..n` on which `(0..n).all(..)` answers it.
use mathlib.Core.Path.{◌≡◌, refl, sym}
use mathlib.Core.Bool.{Bool, true, false, not, ◌&&◌, and-true}
use mathlib.Core.Logic.{⊎_elim}
use Prim.Native.Nat.{ℕ, zero, suc, ◌+◌, ◌≤◌, ◌<◌}
use native.Mathlib.Nat.{add-zero, zero-add, sub-zero, eq-or-lt_of_le, le_of_suc-le-suc, not-suc-le-zero}
use native.Mathlib.Numerals.{add-one}
use native.Mathlib.Omega.{arith}
use Rattle.std.specs.declared.ops.Range.{Range}
use Rattle.std.proofs.iter.Yields.{nat_range_steps}
use Rattle.std.proofs.lemmas.Iterator.{YieldsList, YieldsList-from_range}
use Rattle.std.specs.List.{list_all, range_with_len}
use Rattle.octets.proofs.CheckLaws.{yes, and_left, and_right, and_both}
use Rattle.state.specs.Sound.{all_below}

and-assoc : (a b d : Bool) → (a && (b && d)) ≡ ((a && b) && d)
and-assoc true b d = refl
and-assoc false b d = refl

-- the test has passed at i of n numbers
abbrev pub Passed : (ℕ → Bool) → ℕ → ℕ → Type 0
Passed f n i = (i ≤ n) × (all_below f i ≡ true)

pub counted : (n : ℕ) {s : Range ℕ} → s ≡ record { start = 0; end = n } → YieldsList nat_range_steps (λ x. x) s (range_with_len 0 n)
counted n e = YieldsList-from_range 0 n n e (sub-zero n)

module _ (f : ℕ → Bool) where
  pub below_all : (n : ℕ) → all_below f n ≡ true → (i : ℕ) → i < n → f i ≡ true
  unfolding all_below
  below_all zero h i l = absurd (not-suc-le-zero l)
  below_all (suc n) h i l =
      ⊎_elim (λ e. rw e (and_right (all_below f n) (f n) h)) (below_all n (and_left (all_below f n) (f n) h) i)
      (eq-or-lt_of_le (le_of_suc-le-suc l))

  pub all-below : (n : ℕ) → ((i : ℕ) → i < n → f i ≡ true) → all_below f n ≡ true
  unfolding all_below
  all-below zero h = refl
  all-below (suc n) h = and_both (all_below f n) (f n) (all-below n (λ i l. h i (omega arith))) (h n (omega arith))

  -- one number more at the end
  last : (a n : ℕ) → list_all f (range_with_len a (suc n)) ≡ (list_all f (range_with_len a n) && f (a + n))
  last a zero = rw add-zero (and-true (f a))
  last a (suc n) =
      let e : a + 1 + n ≡ a + suc n = omega arith in
      rw (last (a + 1) n, e) (and-assoc (f a) (list_all f (range_with_len (a + 1) n)) (f (a + suc n)))

  pub all-range : (n : ℕ) → list_all f (range_with_len 0 n) ≡ all_below f n
  unfolding all_below
  all-range zero = refl
  all-range (suc n) = rw (← all-range n) (rw (zero-add n) at (last 0 n))

  -- so a loop that returns at `if !f(i)` starts, passes i, and ends
  pub all_none : (n : ℕ) → Passed f n 0
  unfolding all_below
  all_none n = (omega arith, refl)

  pub all_more : (n i : ℕ) {r : Bool} → i < n → all_below f i ≡ true → r ≡ f i → not r ≡ false → Passed f n (i + 1)
  unfolding all_below
  all_more n i l h e t = (omega arith, rw add-one (and_both (all_below f i) (f i) h (yes e t)))

  pub all_done : (n i : ℕ) → n ≤ i → Passed f n i → true ≡ all_below f n
  all_done n i l p = let e : i ≡ n = omega arith in sym (rw e at p.1)
