-- Rows with the same kind and the same name: one among the first n is found.
use mathlib.Core.Path.{◌≡◌, refl, sym}
use mathlib.Core.Logic.{⊎_elim}
use mathlib.Core.Bool.{Bool, true, ◌&&◌, ◌||◌}
use mathlib.Core.List.{List}
use Prim.Native.Nat.{ℕ, zero, suc, ◌+◌, ◌<◌}
use native.Mathlib.Nat.{add-zero, zero-add, eq-or-lt_of_le, le_of_suc-le-suc, not-suc-le-zero}
use native.Mathlib.Omega.{arith}
use lib.Dec.{eqb}
use Rattle.std.proofs.Math.Bool.{or_assoc}
use Rattle.std.specs.List.{list_any, range_with_len}
use Rattle.octets.specs.Same.{same}
use Rattle.layout.specs.Layout.{kind, name}
use Rattle.grammar.specs.Checks.{used_below}
use Rattle.grammar.proofs.TestLaws.{or-none, or_right}

module _ (b : List ℕ) (i : ℕ) where
  abbrev pub twin : ℕ → Bool
  twin j = eqb (kind b j) (kind b i) && same (name b j) (name b i)

  pub found : (n j : ℕ) → j < n → twin j ≡ true → used_below b i n ≡ true
  unfolding used_below
  found zero j l e = absurd (not-suc-le-zero l)
  found (suc n) j l e =
      ⊎_elim (λ q. or_right (used_below b i n) (twin n) (rw q at e)) (λ m. rw (found n j m e)) (eq-or-lt_of_le (le_of_suc-le-suc l))

  last : (a n : ℕ) → list_any twin (range_with_len a (suc n)) ≡ (list_any twin (range_with_len a n) || twin (a + n))
  last a zero = rw add-zero (or-none (twin a))
  last a (suc n) =
      let e : a + 1 + n ≡ a + suc n = omega arith in
      rw (last (a + 1) n, e) (sym (or_assoc (twin a) (list_any twin (range_with_len (a + 1) n)) (twin (a + suc n))))

  pub any-twins : (n : ℕ) → list_any twin (range_with_len 0 n) ≡ used_below b i n
  unfolding used_below
  any-twins zero = refl
  any-twins (suc n) = rw (← any-twins n) (rw (zero-add n) at (last 0 n))
