-- Numbers in decimal: digit by digit, and how many digits there are.
use mathlib.Core.Path.{◌≡◌, refl, ap}
use mathlib.Core.Bool.{Bool, true, false}
use mathlib.Core.List.{[], ◌∷◌, ◌++◌}
use Prim.Native.Nat.{ℕ, zero, suc, ◌+◌, ◌/◌, ◌%◌, ◌^◌, ◌≤◌, ◌<◌}
use native.Mathlib.Nat.{pow-succ'}
use native.Mathlib.Omega.{arith}
use borrow.Author.Tests.{lt-ltb, le-ltb, ltb-true, ltb-false}
use lib.Dec.{ltb}
use lib.ListN.{length, length-append}
use Rattle.octets.specs.Checks.{pick}
use Rattle.listing.specs.Decimal.{digits, decimal}

module _ (f n : ℕ) where
  pub digits-one : n < 10 → digits (suc f) n ≡ (48 + n) ∷ []
  unfolding digits
  digits-one h = rw (lt-ltb n 10 h)

  pub digits_more : 10 ≤ n → digits (suc f) n ≡ digits f (n / 10) ++ ((48 + n % 10) ∷ [])
  unfolding digits
  digits_more h = rw (le-ltb n 10 h)

-- a digit more than a number has changes nothing
digits_enough : (f n : ℕ) → n < 10 ^ suc f → digits (suc (suc f)) n ≡ digits (suc f) n
digits_enough zero n h = let l : n < 10 = omega arith in rw (digits-one 1 n l, digits-one 0 n l)
digits_enough (suc f) n h = either (ltb n 10) refl (digits_enough f (n / 10) (omega (arith, pow-succ' 10 (suc f)))) where
  either : (t : Bool) → ltb n 10 ≡ t → digits (suc (suc f)) (n / 10) ≡ digits (suc f) (n / 10) → digits (suc (suc (suc f))) n ≡ digits (suc (suc f)) n
  either true e q = let l = ltb-true n 10 e in rw (digits-one (suc (suc f)) n l, digits-one (suc f) n l)
  either false e q = let l = ltb-false n 10 e in rw (digits_more (suc (suc f)) n l, digits_more (suc f) n l, q)

-- the last digit, and the digits before it
pub decimal_digit : (n : ℕ) → n < 10 → decimal n ≡ (48 + n % 10) ∷ []
decimal_digit n h = rw (digits-one 4 n h) (ap (λ (d : ℕ). (48 + d) ∷ []) (omega arith))

pub decimal_more : (n : ℕ) → 10 ≤ n → n < 65536 → decimal n ≡ decimal (n / 10) ++ ((48 + n % 10) ∷ [])
decimal_more n h l = rw (digits_more 4 n h, digits_enough 3 (n / 10) (omega arith))

pub length_digits : (f n : ℕ) → length (digits f n) ≤ f
unfolding digits
length_digits zero n = omega arith
length_digits (suc f) n = either (ltb n 10) (length_digits f (n / 10)) where
  either : (t : Bool) → length (digits f (n / 10)) ≤ f → length (pick t ((48 + n) ∷ []) (digits f (n / 10) ++ ((48 + n % 10) ∷ []))) ≤ suc f
  either true h = omega arith
  either false h = simp length-append (omega arith)

pub length-one : (n : ℕ) → n < 10 → length (decimal n) ≤ 1
length-one n h = rw (digits-one 4 n h) (omega arith)

pub length_two : (n : ℕ) → n < 100 → length (decimal n) ≤ 2
length_two n h = either (ltb n 10) refl where
  either : (t : Bool) → ltb n 10 ≡ t → length (decimal n) ≤ 2
  either true e = omega (arith, length-one n (ltb-true n 10 e))
  either false e = rw (digits_more 4 n (ltb-false n 10 e), digits-one 3 (n / 10) (omega arith)) (omega arith)
