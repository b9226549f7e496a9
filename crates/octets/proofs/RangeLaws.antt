-- A number from one to another, and a word that has no bit at or above a count.
use mathlib.Core.Path.{◌≡◌, refl}
use mathlib.Core.Bool.{Bool, true, false}
use Prim.Native.Nat.{ℕ, ◌/◌, ◌^◌, ◌<◌, ◌≤◌}
use native.Mathlib.Nat.{div-eq_of_lt, lt-div-mul-add, lt_of_lt_of_le}
use native.Mathlib.Omega.{arith}
use lib.Dec.{leb, ltb, eqb}
use lib.Pow.{pow_pos, pow_mono}
use borrow.Author.Tests.{lt-ltb, le-leb, eq-eqb, ne_eqb, ltb-true, ltb-false, leb-true}
use Rattle.octets.specs.Range.{between}
use Rattle.octets.proofs.CheckLaws.{and_left, and_right, and_both}

-- the test of a range holds just where the number is at least lo and at most hi
module _ (lo hi v : ℕ) where
  pub between-both : between lo hi v ≡ true → (lo ≤ v) × (v ≤ hi)
  between-both e = (leb-true lo v (and_left (leb lo v) (leb v hi) e), leb-true v hi (and_right (leb lo v) (leb v hi) e))

  pub both-between : (lo ≤ v) × (v ≤ hi) → between lo hi v ≡ true
  both-between h = and_both (leb lo v) (leb v hi) (le-leb lo v h.0) (le-leb v hi h.1)

-- a number's quotient is 0 just where the number is below the divisor
module _ (w m : ℕ) (pos : 0 < m) where
  by-test : (t : Bool) → ltb w m ≡ t → eqb (w / m) 0 ≡ t
  by-test true e = eq-eqb (w / m) 0 (div-eq_of_lt (ltb-true w m e))
  by-test false e = ne_eqb (w / m) 0 (λ z. omega (arith, ltb-false w m e, rw z at (lt-div-mul-add {a = w} {b = m} pos)))

  pub quotient-none : eqb (w / m) 0 ≡ ltb w m
  quotient-none = by-test (ltb w m) refl

-- a shift by c leaves nothing just where the word has no bit at or above c
pub shifted : (w c : ℕ) → eqb (w / 2 ^ c) 0 ≡ ltb w (2 ^ c)
shifted w c = quotient-none w (2 ^ c) (pow_pos c)

-- a word of k bits has no bit at or above k
pub all-bits : (w k c : ℕ) → w < 2 ^ k → k ≤ c → ltb w (2 ^ c) ≡ true
all-bits w k c h l = lt-ltb w (2 ^ c) (lt_of_lt_of_le h (pow_mono l))
