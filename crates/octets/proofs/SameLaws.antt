-- Byte strings that are the same: `same` holds just of equal ones. A comparison that collects the differing bits of each pair
-- of bytes finds it: the bits are 0 so far, and the rest is the same.
use mathlib.Core.Path.{◌≡◌, refl}
use mathlib.Core.Bool.{Bool, true, false, ◌&&◌, and_assoc, and-true, true≢false, false≢true}
use mathlib.Core.List.{List, [], ◌∷◌}
use Prim.Native.Nat.{ℕ, ◌+◌, ◌≤◌, ◌<◌}
use native.Mathlib.Numerals.{add-one}
use native.Mathlib.Omega.{arith}
use borrow.Author.Tests.{eq-eqb, ne_eqb, eqb-true, eqb-false}
use lib.Bits.{bit_xor, bit_or, or_zero_l, xor_self, or_add_and, and_le_r, xor_add_and, and_le_l}
use lib.Dec.{eqb}
use lib.ListN.{length, get_or, drop, drop_of_length-le}
use lib.Seq.{drop-cons}
use Rattle.octets.specs.Same.{same}
use Rattle.octets.proofs.CheckLaws.{and_left, and_right}

pub same_refl : (a : List ℕ) → same a a ≡ true
unfolding same
same_refl [] = refl
same_refl (x ∷ xs) = rw (eq-eqb x x refl, same_refl xs)

pub same_true : (a b : List ℕ) → same a b ≡ true → a ≡ b
unfolding same
same_true [] [] e = refl
same_true [] (y ∷ ys) e = absurd (false≢true e)
same_true (x ∷ xs) [] e = absurd (false≢true e)
same_true (x ∷ xs) (y ∷ ys) e =
    cc (eqb-true x y (and_left (eqb x y) (same xs ys) e), same_true xs ys (and_right (eqb x y) (same xs ys) e))

pub same_false : (a b : List ℕ) → same a b ≡ false → a ≡ b → ⊥
same_false a b e h = true≢false (cc (same_refl a))

pub differ_same : (a b : List ℕ) → (a ≡ b → ⊥) → same a b ≡ false
differ_same a b h = either (same a b) refl where
  either : (t : Bool) → same a b ≡ t → t ≡ false
  either true e = absurd (h (same_true a b e))
  either false e = refl

xor-zero : (x y : ℕ) (t : Bool) → eqb x y ≡ t → eqb (bit_xor x y) 0 ≡ t
xor-zero x y true e = eq-eqb (bit_xor x y) 0 (rw (eqb-true x y e) (xor_self y))
xor-zero x y false e =
    ne_eqb (bit_xor x y) 0 (λ z. eqb-false x y e (omega (arith, xor_add_and x y, and_le_l x y, and_le_r x y)))

pub or-zero : (c z : ℕ) (t : Bool) → eqb c 0 ≡ t → eqb (bit_or c z) 0 ≡ t && eqb z 0
or-zero c z true e = rw (eqb-true c 0 e, or_zero_l z)
or-zero c z false e = ne_eqb (bit_or c z) 0 (λ q. eqb-false c 0 e (omega (arith, or_add_and c z, and_le_r c z)))

-- one more pair of bytes
pub same_cons : (c x y : ℕ) (a b : List ℕ) → eqb (bit_or c (bit_xor x y)) 0 && same a b ≡ eqb c 0 && same (x ∷ a) (y ∷ b)
unfolding same
same_cons c x y a b = rw (or-zero c (bit_xor x y) (eqb c 0) refl, xor-zero x y (eqb x y) refl) (and_assoc (eqb c 0) (eqb x y) (same a b))

-- no pair is left
pub same_nil : (c : ℕ) (a b : List ℕ) → length a ≡ 0 → length b ≡ 0 → eqb c 0 && same a b ≡ eqb c 0
unfolding same
same_nil c [] [] ha hb = and-true (eqb c 0)
same_nil c [] (y ∷ b) ha hb = absurd (omega arith)
same_nil c (x ∷ a) b ha hb = absurd (omega arith)

-- one more pair, found by its index
pub same_step : (c : ℕ) (a b : List ℕ) (i : ℕ) → i < length a → i < length b
    → eqb (bit_or c (bit_xor (get_or a i 0) (get_or b i 0))) 0 && same (drop (i + 1) a) (drop (i + 1) b) ≡ eqb c 0 && same (drop i a) (drop i b)
unfolding same
same_step c a b i ha hb =
    let x : ℕ = get_or a i 0 in
    let y : ℕ = get_or b i 0 in
    rw (add-one, or-zero c (bit_xor x y) (eqb c 0) refl, xor-zero x y (eqb x y) refl, and_assoc, drop-cons a i 0, drop-cons b i 0)

-- no pair is left, by the index
pub same_end : (c : ℕ) (a b : List ℕ) (i : ℕ) → length a ≤ i → length b ≤ i → eqb c 0 && same (drop i a) (drop i b) ≡ eqb c 0
unfolding same
same_end c a b i ha hb = rw (drop_of_length-le a ha, drop_of_length-le b hb) (and-true (eqb c 0))
