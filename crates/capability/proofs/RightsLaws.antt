-- What words permit: the all-ones word permits every command, an AND of words permits what both do, and a narrowed capability permits
-- what it permitted and its new word permits.
use mathlib.Core.Path.{◌≡◌, refl, sym, ap, ◌∙◌}
use mathlib.Core.Bool.{Bool, true, false, ◌&&◌, false≢true}
use mathlib.Core.List.{List, [], ◌∷◌}
use Prim.Native.Nat.{ℕ, zero, suc, ◌+◌, ◌-◌, ◌/◌, ◌%◌, ◌^◌, ◌≤◌, ◌<◌}
use native.Mathlib.Nat.{pow-succ', div-eq_of_lt}
use native.Mathlib.Omega.{arith}
use borrow.Author.Tests.{eqb-true}
use lib.Bits.{bit_and, and_shr, and_mod}
use lib.Dec.{eqb}
use lib.Pow.{pow_pos, pow_mono, ones_lt, ones_split, high}
use Rattle.capability.specs.Chain.{all_ones}
use Rattle.std.specs.List.{list_all}
use Rattle.capability.specs.Rights.{allows, all_allow}
use Rattle.capability.specs.Bytes.{narrowed, open?}

bit-ones : (j k : ℕ) → (2 ^ (suc j + k) - 1) / 2 ^ k % 2 ≡ 1
bit-ones j k =
    rw (ones_split (suc j) k, high (2 ^ suc j - 1) k (ones_lt k), pow-succ' 2 j) (omega (arith, pow_pos j))

pub allows-ones : (c : ℕ) → c < 64 → allows c all_ones ≡ true
unfolding allows
allows-ones c h =
    let e : suc (63 - c) + c ≡ 64 = omega arith in
    ap (λ (n : ℕ). eqb ((2 ^ n - 1) / 2 ^ c % 2) 1) (sym e) ∙ rw (bit-ones (63 - c) c)

low_and : (x y : ℕ) → x < 2 → y < 2 → eqb (bit_and x y) 1 ≡ (eqb x 1 && eqb y 1)
low_and zero y h k = refl
low_and (suc zero) zero h k = refl
low_and (suc zero) (suc zero) h k = refl
low_and (suc zero) (suc (suc y)) h k = absurd (omega arith)
low_and (suc (suc x)) y h k = absurd (omega arith)

pub allows-and : (c x y : ℕ) → allows c (bit_and x y) ≡ (allows c x && allows c y)
unfolding allows
allows-and c x y =
    rw (and_shr x y c, and_mod (x / 2 ^ c) (y / 2 ^ c) 1) (low_and (x / 2 ^ c % 2) (y / 2 ^ c % 2) (omega arith) (omega arith))

-- a word has no bit from 64 on
pub allows_past : (c w : ℕ) → 64 ≤ c → w < 2 ^ 64 → allows c w ≡ false
unfolding allows
allows_past c w h b = rw (div-eq_of_lt {n = w} {m = 2 ^ c} (omega (arith, pow_mono h)))

swap : (a b r : Bool) → (a && (b && r)) ≡ (b && (a && r))
swap true b r = refl
swap false true r = refl
swap false false r = refl

pub narrowed-rights : (c w : ℕ) (ws : List ℕ) → c < 64 → open? ws ≡ true → all_allow c (narrowed w ws) ≡ (allows c w && all_allow c ws)
unfolding all_allow narrowed open?
narrowed-rights c w [] h o = absurd (false≢true o)
narrowed-rights c w (x ∷ xs) h o = either (eqb x all_ones) refl (narrowed-rights c w xs h) where
  either : (t : Bool) → eqb x all_ones ≡ t → (open? xs ≡ true → all_allow c (narrowed w xs) ≡ (allows c w && all_allow c xs))
      → all_allow c (narrowed w (x ∷ xs)) ≡ (allows c w && all_allow c (x ∷ xs))
  either true e r = rw (e, eqb-true x all_ones e, allows-ones c h)
  either false e r = rw (e, r (rw e at o)) (swap (allows c x) (allows c w) (all_allow c xs))

pub list_allows : (c : ℕ) (ws : List ℕ) → list_all (allows c) ws ≡ all_allow c ws
unfolding all_allow
list_allows c [] = refl
list_allows c (w ∷ ws) = rw (list_allows c ws)
