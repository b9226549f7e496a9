-- A turn of the code's loop: which bits of x it looks at, and what the sums become; and the sums taken together. By the steps of algorithm 1.
use mathlib.Core.Path.{◌≡◌, refl, sym, ap, ap₂, ◌∙◌}
use mathlib.Core.List.{List, [], ◌∷◌, ◌++◌}
use Prim.Native.Nat.{ℕ, suc, ◌+◌, ◌-◌, ◌*◌, ◌/◌, ◌%◌, ◌^◌, ◌<◌, ◌≤◌}
use native.Mathlib.Nat.{add_comm, mul_assoc, mul-one, mul-suc}
use native.Mathlib.Numerals.{add-one}
use native.Mathlib.Omega.{arith}
use lib.Bits.{bit_xor, xor_comm}
use lib.ListN.{length, get_or}
use lib.Pow.{pow-add}
use Rattle.ghash.specs.Field.{bit, next_z, next_v, v_i, z_i, dot}
use Rattle.ghash.proofs.FieldLaws.{bit_shifted, doubled-bit, z_i-parts, z_i-first}

-- sum k is what i bits of x from bit 32 k on add
abbrev pub Sum : ℕ → ℕ → ℕ → List ℕ → ℕ → Type 0
Sum x y i s k = get_or s k 0 ≡ z_i (x * 2 ^ (32 * k)) y i

pub turn-double : (x i r : ℕ) → r ≡ x * 2 ^ i % 2 ^ 128 → r * 2 % 2 ^ 128 ≡ x * 2 ^ (i + 1) % 2 ^ 128
turn-double x i r e =
    let p : x * 2 ^ (i + 1) ≡ x * 2 ^ i * 2 = ap (λ (n : ℕ). x * n) (pow-add 2 i 1) ∙ sym (mul_assoc x (2 ^ i) 2) in
    omega arith

pub turn-power : (y i v r : ℕ) → v ≡ v_i y i → r ≡ next_v v → r ≡ v_i y (i + 1)
unfolding v_i
turn-power y i v r ev er = rw (er, ev, add-one)

-- the bit that is looked at for sum k
looked-at : (x i k r : ℕ) → r ≡ x * 2 ^ i % 2 ^ 128 → i < 32 → k < 4 → r / 2 ^ (127 - 32 * k) % 2 ≡ bit (x * 2 ^ (32 * k)) i
unfolding bit
looked-at x i k r e hi hk =
    let j : 127 - 32 * k - i ≡ 127 - (32 * k + i) = omega arith in
    ap (λ (n : ℕ). n / 2 ^ (127 - 32 * k) % 2) e
    ∙ doubled-bit x i (127 - 32 * k) (omega arith) (omega arith)
    ∙ ap (λ (n : ℕ). x / 2 ^ n % 2) j
    ∙ sym (bit_shifted x (32 * k) i (omega arith))

pub turn-sum : (x y i k r z v n : ℕ) → r ≡ x * 2 ^ i % 2 ^ 128 → i < 32 → k < 4 → z ≡ z_i (x * 2 ^ (32 * k)) y i → v ≡ v_i y i
    → n ≡ next_z (r / 2 ^ (127 - 32 * k) % 2) z v → n ≡ z_i (x * 2 ^ (32 * k)) y (i + 1)
unfolding z_i
turn-sum x y i k r z v n e hi hk ez ev en = rw (en, looked-at x i k r e hi hk, ez, ev, add-one)

-- sums taken into z, the last first: each one before it is x^32 apart
abbrev pub taken : List ℕ → ℕ → ℕ
taken [] z = z
taken (s ∷ ss) z = bit_xor (v_i (taken ss z) 32) s

pub taken-last : (ss : List ℕ) (s z : ℕ) → taken (ss ++ s ∷ []) z ≡ taken ss (bit_xor (v_i z 32) s)
taken-last [] s z = refl
taken-last (a ∷ ss) s z = ap (λ (n : ℕ). bit_xor (v_i n 32) a) (taken-last ss s z)

pub taken-none : (ss : List ℕ) (z : ℕ) → length ss ≡ 0 → taken ss z ≡ z
taken-none [] z h = refl
taken-none (s ∷ ss) z h = absurd (omega arith)

-- all of them together are what all their bits add
pub taken-all : (ss : List ℕ) (x y : ℕ) → length ss ≤ 4 → ((k : ℕ) → k < length ss → Sum x y 32 ss k) → taken ss 0 ≡ z_i x y (32 * length ss)
unfolding z_i
taken-all [] x y h e = refl
taken-all (s ∷ ss) x y h e =
    let n : ℕ = length ss in
    let m : 32 * suc n ≡ 32 + 32 * n = omega arith in
    let up : (k : ℕ) → x * 2 ^ (32 * suc k) ≡ x * 2 ^ 32 * 2 ^ (32 * k) =
    λ k. ap (λ (j : ℕ). x * 2 ^ j) (mul-suc 32 k ∙ add_comm (32 * k) 32) ∙ ap (λ (p : ℕ). x * p) (pow-add 2 32 (32 * k)) ∙ sym (mul_assoc x (2 ^ 32) (2 ^ (32 * k))) in
    let first : s ≡ z_i x y 32 = e 0 (omega arith) ∙ ap (λ (a : ℕ). z_i a y 32) (mul-one x) in
    let rest : taken ss 0 ≡ z_i (x * 2 ^ 32) y (32 * n) =
    taken-all ss (x * 2 ^ 32) y (omega arith) (λ k l. e (suc k) (omega arith) ∙ ap (λ (a : ℕ). z_i a y 32) (up k)) in
    ap₂ (λ (a b : ℕ). bit_xor (v_i a 32) b) rest first
    ∙ xor_comm (v_i (z_i (x * 2 ^ 32) y (32 * n)) 32) (z_i x y 32)
    ∙ sym (z_i-parts x y 32 (32 * n) (omega arith))
    ∙ ap (z_i x y) (sym m)

-- and where no bit after them is set, they are the product
pub taken-dot : (ss : List ℕ) (x y n : ℕ) → length ss ≡ n → n ≤ 4 → x % 2 ^ (128 - 32 * n) ≡ 0 → ((k : ℕ) → k < n → Sum x y 32 ss k) → taken ss 0 ≡ dot x y
unfolding dot
taken-dot ss x y n l h r e =
    taken-all ss x y (omega arith) (λ k j. e k (omega arith))
    ∙ ap (λ (m : ℕ). z_i x y (32 * m)) l
    ∙ sym (z_i-first x y (32 * n) (128 - 32 * n) (omega arith) r)
