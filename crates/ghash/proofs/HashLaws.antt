-- A hash is sixteen bytes, and a number that k bytes can write is read back from the k bytes that write it. By induction on the bytes.
use mathlib.Core.Path.{◌≡◌, refl, sym, ap, ap₂, ◌∙◌}
use mathlib.Core.List.{List, [], ◌∷◌, ◌++◌, append_assoc}
use Prim.Native.Nat.{ℕ, zero, suc, ◌+◌, ◌*◌, ◌/◌, ◌%◌, ◌^◌, ◌<◌}
use native.Mathlib.Nat.{add-zero, mul-suc, mul_assoc, add_assoc, add-mul, mod-eq_of_lt}
use native.Mathlib.Omega.{arith}
use lib.ListN.{length, get_or, length-append}
use lib.Pow.{pow-add, mod-pow-add}
use lib.Seq.{get_or-append-add}
use Rattle.ghash.specs.Bytes.{num_at, bytes_of}
use Rattle.ghash.specs.Ghash.{hash_of}

pub length-bytes_of : (x k : ℕ) → length (bytes_of x k) ≡ k
unfolding bytes_of
length-bytes_of x zero = refl
length-bytes_of x (suc k) = ap suc (length-bytes_of x k)

pub length-hash : (h a c : List ℕ) → length (hash_of h a c) ≡ 16
unfolding hash_of
length-hash h a c = length-bytes_of _ 16

-- the first byte apart
num-first : (s : List ℕ) (at k : ℕ) → num_at s at (suc k) ≡ get_or s at 0 * 2 ^ (8 * k) + num_at s (suc at) k
unfolding num_at
num-first s at zero = omega (arith, ap (λ (i : ℕ). get_or s i 0) (add-zero at))
num-first s at (suc k) =
    let g : ℕ = get_or s at 0 in
    let p : 2 ^ (8 * suc k) ≡ 2 ^ (8 * k) * 256 = ap (λ (e : ℕ). 2 ^ e) (mul-suc 8 k) ∙ pow-add 2 (8 * k) 8 in
    let i : at + suc k ≡ suc at + k = omega arith in
    ap₂ (λ (x j : ℕ). x * 256 + get_or s j 0) (num-first s at k) i
    ∙ ap (λ (x : ℕ). x + get_or s (suc at + k) 0) (add-mul (g * 2 ^ (8 * k)) (num_at s (suc at) k) 256 ∙ ap (λ (x : ℕ). x + num_at s (suc at) k * 256) (mul_assoc g (2 ^ (8 * k)) 256 ∙ ap (λ (x : ℕ). g * x) (sym p)))
    ∙ add_assoc (g * 2 ^ (8 * suc k)) (num_at s (suc at) k * 256) (get_or s (suc at + k) 0)

num-mod : (pre : List ℕ) (n k : ℕ) → num_at (pre ++ bytes_of n k) (length pre) k ≡ n % 2 ^ (8 * k)
unfolding num_at bytes_of
num-mod pre n zero = omega arith
num-mod pre n (suc k) =
    let b : ℕ = n / 2 ^ (8 * k) % 256 in
    let s : List ℕ = pre ++ b ∷ bytes_of n k in
    let e : 8 + 8 * k ≡ 8 * suc k = omega arith in
    num-first s (length pre) k
    ∙ ap₂ (λ (x y : ℕ). x * 2 ^ (8 * k) + y)
    (ap (λ (i : ℕ). get_or s i 0) (sym (add-zero (length pre))) ∙ get_or-append-add pre (b ∷ bytes_of n k) 0 0)
    (ap₂ (λ (l : List ℕ) (i : ℕ). num_at l i k) (sym (append_assoc pre (b ∷ []) (bytes_of n k))) (sym (length-append pre (b ∷ []) ∙ omega arith))
    ∙ num-mod (pre ++ b ∷ []) n k)
    ∙ sym (mod-pow-add n 8 (8 * k))
    ∙ ap (λ (j : ℕ). n % 2 ^ j) e

pub num-bytes : (pre : List ℕ) (n k : ℕ) → n < 2 ^ (8 * k) → num_at (pre ++ bytes_of n k) (length pre) k ≡ n
num-bytes pre n k h = num-mod pre n k ∙ mod-eq_of_lt h
