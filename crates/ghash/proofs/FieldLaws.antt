-- Algorithm 1 is linear: multiplying by x keeps sums, so the steps from step k on add the same V_i as the first ones, times x^k. By
-- the laws of ⊕ on bits, and by induction on the steps.
use mathlib.Core.Path.{◌≡◌, refl, sym, ap, ap₂, ◌∙◌}
use Prim.Native.Nat.{ℕ, zero, suc, ◌+◌, ◌-◌, ◌*◌, ◌/◌, ◌%◌, ◌^◌, ◌≤◌, ◌<◌}
use native.Mathlib.Nat.{add-zero, add-suc, add_comm, mul-one, mul_assoc}
use native.Mathlib.Omega.{arith}
use lib.Bits.{bit_xor, xor_assoc, differ, xor_shr, xor_zero_l, xor_zero_r, xor_self, shifted_half, shifted_even}
use lib.Pow.{pow-add, shl-shr, shr-shr, high, low, field, mod-mod-pow}
use Rattle.std.proofs.lemmas.Nat.{div-add-mod'}
use Rattle.octets.proofs.XorLaws.{xor_low, xor-swap}
use Rattle.ghash.specs.Field.{r_128, bit, by_bit, next_z, next_v, v_i, z_i}

-- ---- multiplying by x

by-differ : (x y r : ℕ) → x < 2 → y < 2 → by_bit (differ x y) 0 r ≡ bit_xor (by_bit x 0 r) (by_bit y 0 r)
unfolding by_bit
by-differ zero y r hx hy = sym (xor_zero_l (by_bit y 0 r))
by-differ (suc x) zero r hx hy = sym (xor_zero_r r)
by-differ (suc zero) (suc zero) r hx hy = sym (xor_self r)
by-differ (suc zero) (suc (suc y)) r hx hy = absurd (omega arith)
by-differ (suc (suc x)) (suc y) r hx hy = absurd (omega arith)

by-sum : (c a r : ℕ) → by_bit c a (bit_xor a r) ≡ bit_xor a (by_bit c 0 r)
unfolding by_bit
by-sum zero a r = sym (xor_zero_r a)
by-sum (suc c) a r = refl

pub next-sum : (v : ℕ) → next_v v ≡ bit_xor (v / 2) (by_bit (v % 2) 0 r_128)
unfolding next_v
next-sum v = by-sum (v % 2) (v / 2) r_128

pub next-xor : (a b : ℕ) → next_v (bit_xor a b) ≡ bit_xor (next_v a) (next_v b)
next-xor a b =
    next-sum (bit_xor a b)
    ∙ ap₂ (λ (p q : ℕ). bit_xor p (by_bit q 0 r_128)) (xor_shr a b 1) (xor_low a b)
    ∙ ap (bit_xor (bit_xor (a / 2) (b / 2))) (by-differ (a % 2) (b % 2) r_128 (omega arith) (omega arith))
    ∙ xor-swap (a / 2) (b / 2) (by_bit (a % 2) 0 r_128) (by_bit (b % 2) 0 r_128)
    ∙ sym (ap₂ bit_xor (next-sum a) (next-sum b))

pub v_i-xor : (a b n : ℕ) → v_i (bit_xor a b) n ≡ bit_xor (v_i a n) (v_i b n)
unfolding v_i
v_i-xor a b zero = refl
v_i-xor a b (suc n) = ap next_v (v_i-xor a b n) ∙ next-xor (v_i a n) (v_i b n)

pub v_i-zero : (n : ℕ) → v_i 0 n ≡ 0
unfolding v_i next_v by_bit
v_i-zero zero = refl
v_i-zero (suc n) = ap next_v (v_i-zero n)

pub v_i-first : (y n : ℕ) → v_i y (suc n) ≡ v_i (next_v y) n
unfolding v_i
v_i-first y zero = refl
v_i-first y (suc n) = ap next_v (v_i-first y n)

v_i-add : (y n m : ℕ) → v_i y (n + m) ≡ v_i (v_i y n) m
unfolding v_i
v_i-add y n zero = ap (v_i y) (add-zero n)
v_i-add y n (suc m) = ap (v_i y) (add-suc n m) ∙ ap next_v (v_i-add y n m)

next-even : (a n : ℕ) → next_v (a * 2 ^ suc n) ≡ a * 2 ^ n
unfolding next_v by_bit
next-even a n =
    let v : ℕ = a * 2 ^ suc n in
    ap (λ (c : ℕ). by_bit c (v / 2) (bit_xor (v / 2) r_128)) (shifted_even a n) ∙ shifted_half a n

-- what has n 0s at its end is just shifted
pub v_i-even : (a n : ℕ) → v_i (a * 2 ^ n) n ≡ a
unfolding v_i
v_i-even a zero = omega arith
v_i-even a (suc n) = v_i-first (a * 2 ^ suc n) n ∙ ap (λ (v : ℕ). v_i v n) (next-even a n) ∙ v_i-even a n

-- ---- the bits of a block

-- a run of bits of the high word, modulo m, is that run of the whole
pub high-run : (h l m k : ℕ) → l < 2 ^ 64 → h / 2 ^ k % m ≡ (h * 2 ^ 64 + l) / 2 ^ (64 + k) % m
high-run h l m k hl = ap (λ (n : ℕ). n / 2 ^ k % m) (sym (high h 64 hl)) ∙ ap (λ (n : ℕ). n % m) (shr-shr (h * 2 ^ 64 + l) 64 k)

-- a run of j bits of the low word is that run of the whole
pub low_run : (h l j k : ℕ) → l < 2 ^ 64 → j + k ≤ 64 → l / 2 ^ k % 2 ^ j ≡ (h * 2 ^ 64 + l) / 2 ^ k % 2 ^ j
low_run h l j k hl hk =
    let e : (64 - (j + k)) + (j + k) ≡ 64 = omega arith in
    sym (field l j k)
    ∙ ap (λ (n : ℕ). n % 2 ^ (j + k) / 2 ^ k) (sym (low h 64 hl) ∙ ap (λ (m : ℕ). (h * 2 ^ 64 + l) % 2 ^ m) (sym e))
    ∙ ap (λ (n : ℕ). n / 2 ^ k) (mod-mod-pow (h * 2 ^ 64 + l) (64 - (j + k)) (j + k))
    ∙ field (h * 2 ^ 64 + l) j k

-- bit i of x << k is bit k + i of x
pub bit_shifted : (x k i : ℕ) → k + i ≤ 127 → bit (x * 2 ^ k) i ≡ bit x (k + i)
unfolding bit
bit_shifted x k i h =
    let e : 127 - i ≡ k + (127 - (k + i)) = omega arith in
    ap (λ (j : ℕ). x * 2 ^ k / 2 ^ j % 2) e
    ∙ ap (λ (n : ℕ). n % 2) (sym (shr-shr (x * 2 ^ k) k (127 - (k + i))))
    ∙ ap (λ (n : ℕ). n / 2 ^ (127 - (k + i)) % 2) (shl-shr x k)

-- bit k of a block that was doubled i times
pub doubled-bit : (n i k : ℕ) → i ≤ k → k < 128 → n * 2 ^ i % 2 ^ 128 / 2 ^ k % 2 ≡ n / 2 ^ (k - i) % 2
doubled-bit n i k hi hk =
    let e : 128 ≡ ((127 - k) + 1) + k = omega arith in
    let f : k ≡ i + (k - i) = omega arith in
    ap (λ (j : ℕ). n * 2 ^ i % 2 ^ j / 2 ^ k % 2) e
    ∙ ap (λ (m : ℕ). m % 2) (field (n * 2 ^ i) ((127 - k) + 1) k)
    ∙ mod-mod-pow (n * 2 ^ i / 2 ^ k) (127 - k) 1
    ∙ ap (λ (j : ℕ). n * 2 ^ i / 2 ^ j % 2) f
    ∙ ap (λ (m : ℕ). m % 2) (sym (shr-shr (n * 2 ^ i) i (k - i)))
    ∙ ap (λ (m : ℕ). m / 2 ^ (k - i) % 2) (shl-shr n i)

-- bit k of a word that was doubled i times
doubled-word : (n i k : ℕ) → i ≤ k → k < 64 → n * 2 ^ i % 2 ^ 64 / 2 ^ k % 2 ≡ n / 2 ^ (k - i) % 2
doubled-word n i k hi hk =
    let e : 64 ≡ ((63 - k) + 1) + k = omega arith in
    let f : k ≡ i + (k - i) = omega arith in
    ap (λ (j : ℕ). n * 2 ^ i % 2 ^ j / 2 ^ k % 2) e
    ∙ ap (λ (m : ℕ). m % 2) (field (n * 2 ^ i) ((63 - k) + 1) k)
    ∙ mod-mod-pow (n * 2 ^ i / 2 ^ k) (63 - k) 1
    ∙ ap (λ (j : ℕ). n * 2 ^ i / 2 ^ j % 2) f
    ∙ ap (λ (m : ℕ). m % 2) (sym (shr-shr (n * 2 ^ i) i (k - i)))
    ∙ ap (λ (m : ℕ). m / 2 ^ (k - i) % 2) (shl-shr n i)

-- bit 63 - k of the doubled high word is bit k + i of the block, and of the doubled low word bit 64 + k + i
pub high_bit : (h l k i : ℕ) → l < 2 ^ 64 → k + i < 64 → h * 2 ^ i % 2 ^ 64 / 2 ^ (63 - k) % 2 ≡ bit ((h * 2 ^ 64 + l) * 2 ^ k) i
unfolding bit
high_bit h l k i hl hi =
    let e : 64 + ((63 - k) - i) ≡ 127 - (k + i) = omega arith in
    doubled-word h i (63 - k) (omega arith) (omega arith)
    ∙ high-run h l 2 ((63 - k) - i) hl
    ∙ ap (λ (j : ℕ). (h * 2 ^ 64 + l) / 2 ^ j % 2) e
    ∙ sym (bit_shifted (h * 2 ^ 64 + l) k i (omega arith))

pub low_bit : (h l k i : ℕ) → l < 2 ^ 64 → k + i < 64 → l * 2 ^ i % 2 ^ 64 / 2 ^ (63 - k) % 2 ≡ bit ((h * 2 ^ 64 + l) * 2 ^ (64 + k)) i
unfolding bit
low_bit h l k i hl hi =
    let e : (63 - k) - i ≡ 127 - ((64 + k) + i) = omega arith in
    doubled-word l i (63 - k) (omega arith) (omega arith)
    ∙ low_run h l 1 ((63 - k) - i) hl (omega arith)
    ∙ ap (λ (j : ℕ). (h * 2 ^ 64 + l) / 2 ^ j % 2) e
    ∙ sym (bit_shifted (h * 2 ^ 64 + l) (64 + k) i (omega arith))

-- ---- the steps in parts

v_i-next_z : (b z v k : ℕ) → v_i (next_z b z v) k ≡ next_z b (v_i z k) (v_i v k)
unfolding next_z by_bit
v_i-next_z zero z v k = refl
v_i-next_z (suc b) z v k = v_i-xor z v k

next_z-xor : (b a z v : ℕ) → next_z b (bit_xor a z) v ≡ bit_xor a (next_z b z v)
unfolding next_z by_bit
next_z-xor zero a z v = refl
next_z-xor (suc b) a z v = xor_assoc a z v

-- Z_k+n is Z_k ⊕ x^k times what the bits from bit k on add in n steps
pub z_i-parts : (x y k n : ℕ) → k + n ≤ 128 → z_i x y (k + n) ≡ bit_xor (z_i x y k) (v_i (z_i (x * 2 ^ k) y n) k)
unfolding z_i
z_i-parts x y k zero h = ap (z_i x y) (add-zero k) ∙ sym (ap (bit_xor (z_i x y k)) (v_i-zero k) ∙ xor_zero_r (z_i x y k))
z_i-parts x y k (suc n) h =
    let b : ℕ = bit (x * 2 ^ k) n in
    let q : ℕ = z_i (x * 2 ^ k) y n in
    let v : ℕ = v_i y n in
    ap (z_i x y) (add-suc k n)
    ∙ ap₂ (λ (c w : ℕ). next_z c (z_i x y (k + n)) w) (sym (bit_shifted x k n (omega arith))) (ap (v_i y) (add_comm k n) ∙ v_i-add y n k)
    ∙ ap (λ (z : ℕ). next_z b z (v_i v k)) (z_i-parts x y k n (omega arith))
    ∙ next_z-xor b (z_i x y k) (v_i q k) (v_i v k)
    ∙ ap (bit_xor (z_i x y k)) (sym (v_i-next_z b q v k))

-- the four quarters of the steps
pub z_i-quarters : (x y : ℕ)
    → z_i x y 128 ≡ bit_xor (bit_xor (z_i (x * 2 ^ 0) y 32) (v_i (z_i (x * 2 ^ 32) y 32) 32)) (v_i (bit_xor (z_i (x * 2 ^ 64) y 32) (v_i (z_i (x * 2 ^ 96) y 32) 32)) 64)
z_i-quarters x y =
    z_i-parts x y 64 64 (omega arith)
    ∙ ap₂ (λ (p q : ℕ). bit_xor p (v_i q 64))
    (z_i-parts x y 32 32 (omega arith) ∙ ap (λ (n : ℕ). bit_xor (z_i n y 32) (v_i (z_i (x * 2 ^ 32) y 32) 32)) (sym (mul-one x)))
    (z_i-parts (x * 2 ^ 64) y 32 32 (omega arith) ∙ ap (λ (n : ℕ). bit_xor (z_i (x * 2 ^ 64) y 32) (v_i (z_i n y 32) 32)) (mul_assoc x (2 ^ 64) (2 ^ 32)))

z_i-none : (x y n : ℕ) → ((i : ℕ) → i < n → bit x i ≡ 0) → z_i x y n ≡ 0
unfolding z_i next_z by_bit
z_i-none x y zero h = refl
z_i-none x y (suc n) h = ap (λ (b : ℕ). next_z b (z_i x y n) (v_i y n)) (h n (omega arith)) ∙ z_i-none x y n (λ i hi. h i (omega arith))

-- what ends in 128 0s has none of a block's bits
bit-none : (x i : ℕ) → i < 128 → bit (x * 2 ^ 128) i ≡ 0
unfolding bit
bit-none x i hi =
    let e : suc i + (127 - i) ≡ 128 = omega arith in
    ap (λ (n : ℕ). x * n / 2 ^ (127 - i) % 2) (ap (λ (j : ℕ). 2 ^ j) (sym e) ∙ pow-add 2 (suc i) (127 - i))
    ∙ ap (λ (n : ℕ). n / 2 ^ (127 - i) % 2) (sym (mul_assoc x (2 ^ suc i) (2 ^ (127 - i))))
    ∙ ap (λ (n : ℕ). n % 2) (shl-shr (x * 2 ^ suc i) (127 - i))
    ∙ shifted_even x i

-- where only the first n bits are set, the first n steps are all
pub z_i-first : (x y n m : ℕ) → n + m ≡ 128 → x % 2 ^ m ≡ 0 → z_i x y 128 ≡ z_i x y n
z_i-first x y n m e h =
    let q : ℕ = x / 2 ^ m in
    let d : x ≡ q * 2 ^ m = omega (arith, h, div-add-mod' x (2 ^ m)) in
    let s : m + n ≡ 128 = omega arith in
    let f : x * 2 ^ n ≡ q * 2 ^ 128 =
    ap (λ (a : ℕ). a * 2 ^ n) d ∙ mul_assoc q (2 ^ m) (2 ^ n) ∙ ap (λ (a : ℕ). q * a) (sym (pow-add 2 m n) ∙ ap (λ (k : ℕ). 2 ^ k) s) in
    ap (z_i x y) (sym e)
    ∙ z_i-parts x y n m (omega arith)
    ∙ ap (λ (z : ℕ). bit_xor (z_i x y n) (v_i z n)) (ap (λ (a : ℕ). z_i a y m) f ∙ z_i-none (q * 2 ^ 128) y m (λ i hi. bit-none q i (omega arith)))
    ∙ ap (bit_xor (z_i x y n)) (v_i-zero n)
    ∙ xor_zero_r (z_i x y n)

-- of 32 bits
pub z_i-short : (x y : ℕ) → x % 2 ^ 96 ≡ 0 → z_i x y 128 ≡ z_i (x * 2 ^ 0) y 32
z_i-short x y h = z_i-first x y 32 96 refl h ∙ ap (λ (n : ℕ). z_i n y 32) (sym (mul-one x))
