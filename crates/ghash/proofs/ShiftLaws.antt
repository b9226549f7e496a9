-- Multiplying by x^32, and by x^64, in one go: each bit that is shifted out brings back R, and together they bring back L, L >> 1,
-- L >> 2 and L >> 7. By induction on the number of steps, up to 120; then as the code shifts, and in two words of 64 bits.
use mathlib.Core.Path.{◌≡◌, refl, sym, ap, ap₂, ◌∙◌}
use Prim.Native.Nat.{ℕ, zero, suc, ◌+◌, ◌-◌, ◌*◌, ◌/◌, ◌%◌, ◌^◌, ◌≤◌, ◌<◌}
use native.Mathlib.Nat.{add-zero, add-mul, mul_assoc, one-mul, zero-mul, div-one, pow-succ'}
use native.Mathlib.Numerals.{add-one, one-add}
use native.Mathlib.Omega.{arith}
use lib.Bits.{bit_xor, xor_assoc, xor_shr, xor_zero_r, xor_comm, xor_shifted, xor_block, xor_lt}
use lib.Pow.{pow_pos, pow-lt, pow-add, shr-shr, mod-pow-add, high, low}
use Rattle.ghash.specs.Field.{r_128, by_bit, v_i}
use Rattle.octets.proofs.XorLaws.{xor-swap}
use Rattle.ghash.proofs.FieldLaws.{next-sum, v_i-xor, v_i-zero, v_i-first, v_i-even}

-- L ⊕ (L >> 1) ⊕ (L >> 2) ⊕ (L >> 7)
unfoldable pub back : ℕ → ℕ
back n = bit_xor (bit_xor (bit_xor n (n / 2)) (n / 4)) (n / 128)

back-xor : (a b : ℕ) → back (bit_xor a b) ≡ bit_xor (back a) (back b)
unfolding back
back-xor a b =
    ap₂ bit_xor
    (ap₂ bit_xor (ap (bit_xor (bit_xor a b)) (xor_shr a b 1) ∙ xor-swap a b (a / 2) (b / 2)) (xor_shr a b 2)
    ∙ xor-swap (bit_xor a (a / 2)) (bit_xor b (b / 2)) (a / 4) (b / 4))
    (xor_shr a b 7)
    ∙ xor-swap (bit_xor (bit_xor a (a / 2)) (a / 4)) (bit_xor (bit_xor b (b / 2)) (b / 4)) (a / 128) (b / 128)

xor-scaled : (a b k : ℕ) → bit_xor (a * 2 ^ k) (b * 2 ^ k) ≡ bit_xor a b * 2 ^ k
xor-scaled a b k =
    sym (ap₂ bit_xor (add-zero (a * 2 ^ k)) (add-zero (b * 2 ^ k))) ∙ xor_block k a b 0 0 (pow_pos k) (pow_pos k) ∙ add-zero (bit_xor a b * 2 ^ k)

back_one : (n : ℕ) → back (128 * 2 ^ n) ≡ 225 * 2 ^ n
unfolding back
back_one n =
    let e1 : 128 * 2 ^ n / 2 ≡ 64 * 2 ^ n = omega arith in
    let e2 : 128 * 2 ^ n / 4 ≡ 32 * 2 ^ n = omega arith in
    let e7 : 128 * 2 ^ n / 128 ≡ 1 * 2 ^ n = omega arith in
    ap₂ bit_xor (ap₂ bit_xor (ap (bit_xor (128 * 2 ^ n)) e1 ∙ xor-scaled 128 64 n) e2 ∙ xor-scaled 192 32 n) e7
    ∙ xor-scaled 224 1 n

pow-twice : (a n : ℕ) → a * 2 ^ suc n ≡ a * 2 * 2 ^ n
pow-twice a n = ap (λ (p : ℕ). a * p) (pow-succ' 2 n) ∙ sym (mul_assoc a 2 (2 ^ n))

-- one bit more
back-digit : (a c n : ℕ) → c < 2 → bit_xor (back (a * 2 ^ suc n)) (by_bit c 0 (back (2 ^ n))) ≡ back ((a * 2 + c) * 2 ^ n)
unfolding by_bit
back-digit a zero n hc =
    xor_zero_r (back (a * 2 ^ suc n)) ∙ ap back (pow-twice a n ∙ ap (λ (m : ℕ). m * 2 ^ n) (sym (add-zero (a * 2))))
back-digit a (suc zero) n hc =
    sym (back-xor (a * 2 ^ suc n) (2 ^ n))
    ∙ ap back
    (xor_shifted a (suc n) (2 ^ n) (pow-lt (omega arith))
    ∙ ap₂ (λ (p q : ℕ). p + q) (pow-twice a n) (sym (one-mul (2 ^ n)))
    ∙ sym (add-mul (a * 2) 1 (2 ^ n)))
back-digit a (suc (suc c)) n hc = absurd (omega arith)

-- R after k steps
r_128-after : (k n : ℕ) → suc k + n ≡ 128 → 8 ≤ n → v_i r_128 k ≡ back (2 ^ n)
r_128-after k n e h =
    let m : ℕ = n - 7 in
    let i : n ≡ 7 + m = omega arith in
    let j : 120 ≡ m + k = omega arith in
    let p : 2 ^ n ≡ 128 * 2 ^ m = ap (λ (e : ℕ). 2 ^ e) i ∙ pow-add 2 7 m in
    let r : r_128 ≡ 225 * 2 ^ m * 2 ^ k = ap (λ (e : ℕ). 225 * 2 ^ e) j ∙ ap (λ (e : ℕ). 225 * e) (pow-add 2 m k) ∙ sym (mul_assoc 225 (2 ^ m) (2 ^ k)) in
    ap (λ (v : ℕ). v_i v k) r ∙ v_i-even (225 * 2 ^ m) k ∙ sym (back_one m) ∙ sym (ap back p)

by_after : (c k n : ℕ) → suc k + n ≡ 128 → 8 ≤ n → v_i (by_bit c 0 r_128) k ≡ by_bit c 0 (back (2 ^ n))
unfolding by_bit
by_after zero k n e h = v_i-zero k
by_after (suc c) k n e h = r_128-after k n e h

back_none : (m n : ℕ) → m < 1 → back (m * 2 ^ n) ≡ 0
unfolding back
back_none zero n h = ap back (zero-mul (2 ^ n))
back_none (suc m) n h = absurd (omega arith)

-- k steps shift v by k, and the k bits shifted out come back
pub v_i-back : (k n v : ℕ) → k + n ≡ 128 → 8 ≤ n → v_i v k ≡ bit_xor (v / 2 ^ k) (back (v % 2 ^ k * 2 ^ n))
unfolding v_i
v_i-back zero n v e h =
    sym (ap₂ bit_xor (div-one v) (back_none (v % 1) n (omega arith)) ∙ xor_zero_r v)
v_i-back (suc k) n v e h =
    let a : ℕ = v / 2 % 2 ^ k in
    let c : ℕ = v % 2 in
    v_i-first v k
    ∙ ap (λ (w : ℕ). v_i w k) (next-sum v)
    ∙ v_i-xor (v / 2) (by_bit c 0 r_128) k
    ∙ ap₂ bit_xor (v_i-back k (suc n) (v / 2) (omega arith) (omega arith)) (by_after c k n e h)
    ∙ xor_assoc (v / 2 / 2 ^ k) (back (a * 2 ^ suc n)) (by_bit c 0 (back (2 ^ n)))
    ∙ ap₂ bit_xor (shr-shr v 1 k ∙ ap (λ (j : ℕ). v / 2 ^ j) (one-add k))
    (back-digit a c n (omega arith) ∙ ap (λ (m : ℕ). back (m * 2 ^ n)) (sym (mod-pow-add v k 1) ∙ ap (λ (j : ℕ). v % 2 ^ j) (add-one k)))

-- the code's shifts, times x^32
pub x32-shifts : (v : ℕ) → bit_xor (v / 2 ^ 32) (back (v * 2 ^ 96 % 2 ^ 128)) ≡ v_i v 32
x32-shifts v =
    let e : v * 2 ^ 96 % 2 ^ 128 ≡ v % 2 ^ 32 * 2 ^ 96 = omega arith in
    ap (λ (l : ℕ). bit_xor (v / 2 ^ 32) (back l)) e ∙ sym (v_i-back 32 96 v refl (omega arith))

-- what 32 bits bring back ends in 0s: it stays in the high word
back-high : (l : ℕ) → back (l * 2 ^ 32 * 2 ^ 64) ≡ back (l * 2 ^ 32) * 2 ^ 64
unfolding back
back-high l =
    let m : ℕ = l * 2 ^ 32 in
    let e1 : m * 2 ^ 64 / 2 ≡ m / 2 * 2 ^ 64 = omega arith in
    let e2 : m * 2 ^ 64 / 4 ≡ m / 4 * 2 ^ 64 = omega arith in
    let e7 : m * 2 ^ 64 / 128 ≡ m / 128 * 2 ^ 64 = omega arith in
    ap₂ bit_xor
    (ap₂ bit_xor (ap (bit_xor (m * 2 ^ 64)) e1 ∙ xor-scaled m (m / 2) 64) e2 ∙ xor-scaled (bit_xor m (m / 2)) (m / 4) 64)
    e7
    ∙ xor-scaled (bit_xor (bit_xor m (m / 2)) (m / 4)) (m / 128) 64

-- the same in two words of 64 bits, times x^32 and times x^64
pub x32-words : (h l : ℕ) → l < 2 ^ 64
    → bit_xor (h / 2 ^ 32) (back (l % 2 ^ 32 * 2 ^ 32)) * 2 ^ 64 + (h % 2 ^ 32 * 2 ^ 32 + l / 2 ^ 32) ≡ v_i (h * 2 ^ 64 + l) 32
x32-words h l hl =
    let m : ℕ = l % 2 ^ 32 * 2 ^ 32 in
    let r : ℕ = h % 2 ^ 32 * 2 ^ 32 + l / 2 ^ 32 in
    let e : h / 2 ^ 32 * 2 ^ 64 + r ≡ (h * 2 ^ 64 + l) / 2 ^ 32 = omega arith in
    let f : l % 2 ^ 32 ≡ (h * 2 ^ 64 + l) % 2 ^ 32 = omega arith in
    ap (λ (s : ℕ). bit_xor (h / 2 ^ 32) (back m) * 2 ^ 64 + s) (sym (xor_zero_r r))
    ∙ sym (xor_block 64 (h / 2 ^ 32) (back m) r 0 (omega arith) (omega arith))
    ∙ ap₂ bit_xor e (add-zero (back m * 2 ^ 64) ∙ sym (back-high (l % 2 ^ 32)) ∙ ap back (mul_assoc (l % 2 ^ 32) (2 ^ 32) (2 ^ 64) ∙ ap (λ (n : ℕ). n * 2 ^ 96) f))
    ∙ sym (v_i-back 32 96 (h * 2 ^ 64 + l) refl (omega arith))

pub x64-words : (h l : ℕ) → h < 2 ^ 64 → l < 2 ^ 64
    → bit_xor (bit_xor (bit_xor l (l / 2)) (l / 4)) (l / 128) * 2 ^ 64 + bit_xor (bit_xor (bit_xor h (l % 2 * 2 ^ 63)) (l % 4 * 2 ^ 62)) (l % 128 * 2 ^ 57)
    ≡ v_i (h * 2 ^ 64 + l) 64
unfolding back
x64-words h l hh hl =
    let n : ℕ = l * 2 ^ 64 in
    let d : (a b r s : ℕ) → r < 2 ^ 64 → s < 2 ^ 64 → bit_xor a b * 2 ^ 64 + bit_xor r s ≡ bit_xor (a * 2 ^ 64 + r) (b * 2 ^ 64 + s) = λ a b r s p q. sym (xor_block 64 a b r s p q) in
    let h1 : bit_xor h (l % 2 * 2 ^ 63) < 2 ^ 64 = xor_lt 64 h (l % 2 * 2 ^ 63) hh (omega arith) in
    let h2 : bit_xor (bit_xor h (l % 2 * 2 ^ 63)) (l % 4 * 2 ^ 62) < 2 ^ 64 = xor_lt 64 (bit_xor h (l % 2 * 2 ^ 63)) (l % 4 * 2 ^ 62) h1 (omega arith) in
    let e1 : l / 2 * 2 ^ 64 + l % 2 * 2 ^ 63 ≡ n / 2 = omega arith in
    let e2 : l / 4 * 2 ^ 64 + l % 4 * 2 ^ 62 ≡ n / 4 = omega arith in
    let e7 : l / 128 * 2 ^ 64 + l % 128 * 2 ^ 57 ≡ n / 128 = omega arith in
    d (bit_xor (bit_xor l (l / 2)) (l / 4)) (l / 128) (bit_xor (bit_xor h (l % 2 * 2 ^ 63)) (l % 4 * 2 ^ 62)) (l % 128 * 2 ^ 57) h2 (omega arith)
    ∙ ap₂ bit_xor
    (d (bit_xor l (l / 2)) (l / 4) (bit_xor h (l % 2 * 2 ^ 63)) (l % 4 * 2 ^ 62) h1 (omega arith)
    ∙ ap₂ bit_xor
    (d l (l / 2) h (l % 2 * 2 ^ 63) hh (omega arith) ∙ ap₂ bit_xor (sym (xor_shifted l 64 h hh) ∙ xor_comm n h) e1 ∙ xor_assoc h n (n / 2))
    e2
    ∙ xor_assoc h (bit_xor n (n / 2)) (n / 4))
    e7
    ∙ xor_assoc h (bit_xor (bit_xor n (n / 2)) (n / 4)) (n / 128)
    ∙ sym (v_i-back 64 64 (h * 2 ^ 64 + l) refl (omega arith) ∙ ap₂ (λ (a b : ℕ). bit_xor a (back (b * 2 ^ 64))) (high h 64 hl) (low h 64 hl))
