-- Blocks and hashes out of their parts, as the code reads and hashes them: by computing `num_at`, and by induction on the bytes and the blocks.
use mathlib.Core.Path.{◌≡◌, refl, sym, ap, ap₂, ◌∙◌}
use mathlib.Core.List.{List, [], ◌∷◌, ◌++◌, append-nil}
use Prim.Native.Nat.{ℕ, zero, suc, min, ◌+◌, ◌*◌, ◌/◌, ◌%◌, ◌^◌, ◌≤◌, ◌<◌}
use native.Mathlib.Nat.{zero-add, add-zero, add-suc, add_assoc, mul-one, mul-suc, mul_assoc}
use native.Mathlib.Omega.{arith}
use lib.ListN.{length, get_or, length-append, get_or-append, get_or-eq_default}
use lib.Seq.{get_or-append-add}
use lib.Bits.{bit_xor, xor_zero_l}
use lib.Pow.{pow-add}
use Rattle.std.specs.Int.{w128, from_be_bytes, to_be_bytes}
use Rattle.octets.specs.Room.{filled}
use Rattle.octets.proofs.RoomLaws.{filled-byte}
use Rattle.ghash.specs.Field.{dot}
use Rattle.ghash.specs.Bytes.{num_at, bytes_of}
use Rattle.ghash.specs.Ghash.{blocks_in, blocks_from, padded, ghash_from, ghash, len_bits, hash_of}

-- ---- blocks out of bytes, and bytes out of a block

-- what is read of two strings that have the same bytes there
num-same : (s t : List ℕ) (at k : ℕ) → ((i : ℕ) → i < k → get_or s (at + i) 0 ≡ get_or t (at + i) 0) → num_at s at k ≡ num_at t at k
unfolding num_at
num-same s t at zero h = refl
num-same s t at (suc k) h = ap₂ (λ (x y : ℕ). x * 256 + y) (num-same s t at k (λ i l. h i (omega arith))) (h k (omega arith))

-- the 0s that fill up sixteen bytes are what `num_at` reads past the end
pub num-filled : (s : List ℕ) → num_at (filled 16 s 0) 0 16 ≡ num_at s 0 16
num-filled s = num-same (filled 16 s 0) s 0 16 (λ i l. rw (zero-add i) (filled-byte 16 s i l))

-- std's numbers and bytes, the highest first
pub big_number : (s : List ℕ) → from_be_bytes w128 s ≡ num_at s 0 16
unfolding num_at
big_number s = omega arith

pub big_bytes : (n : ℕ) → to_be_bytes w128 n ≡ bytes_of n 16
unfolding bytes_of
big_bytes n = let e : n / 1 ≡ n = omega arith in rw e

-- ---- the blocks of a string

num-after : (x r : List ℕ) (at k : ℕ) → num_at (x ++ r) (length x + at) k ≡ num_at r at k
unfolding num_at
num-after x r at zero = refl
num-after x r at (suc k) =
    ap₂ (λ (a b : ℕ). a * 256 + b) (num-after x r at k) (ap (λ (i : ℕ). get_or (x ++ r) i 0) (add_assoc (length x) at k) ∙ get_or-append-add x r (at + k) 0)

module _ (x r : List ℕ) (long : length x ≡ min 16 (length (x ++ r))) where
  -- the part is sixteen bytes, or nothing is left after it
  cut : (P : Type 0) → (length x ≡ 16 → P) → (r ≡ [] → P) → P
  cut P f g = either r refl where
    either : (l : List ℕ) → r ≡ l → P
    either [] e = g e
    either (b ∷ l) e = f (omega (arith, length-append x r, ap length e))

  first-byte : (i : ℕ) → i < 16 → get_or (x ++ r) i 0 ≡ get_or x i 0
  first-byte i h = cut _ (λ e. get_or-append x r 0 i (omega arith)) (λ e. rw (e, append-nil x))

  next-blocks : (i n : ℕ) → length x ≡ 16 → blocks_from (x ++ r) (suc i) n ≡ blocks_from r i n
  unfolding blocks_from
  next-blocks i zero e = refl
  next-blocks i (suc n) e =
      let s : 16 * suc i ≡ length x + 16 * i = omega arith in
      ap₂ (λ (a : ℕ) (l : List ℕ). a ∷ l) (ap (λ (j : ℕ). num_at (x ++ r) j 16) s ∙ num-after x r (16 * i) 16) (next-blocks (suc i) n e)

  -- the first block, and the blocks of what is left
  pub padded-part : 0 < length (x ++ r) → padded (x ++ r) ≡ num_at x 0 16 ∷ padded r
  unfolding padded blocks_in blocks_from
  padded-part h =
      let n : ℕ = (length r + 15) / 16 in
      let e : (length (x ++ r) + 15) / 16 ≡ suc n = cut _ (λ l. omega (arith, length-append x r)) (λ l. omega (arith, length-append x r, ap length l)) in
      ap (blocks_from (x ++ r) 0) e
      ∙ ap₂ (λ (a : ℕ) (l : List ℕ). a ∷ l)
      (num-same (x ++ r) x 0 16 (λ i l. rw (zero-add i) (first-byte i l)))
      (cut _ (λ l. next-blocks 0 n l) (λ l. rw l))

pub padded-none : (s : List ℕ) → length s ≡ 0 → padded s ≡ []
unfolding padded blocks_in blocks_from
padded-none s h = ap (λ (n : ℕ). blocks_from s 0 ((n + 15) / 16)) h

-- a block taken in
pub absorb-part : (h y : ℕ) (x r : List ℕ) → length x ≡ min 16 (length (x ++ r)) → 0 < length (x ++ r)
    → ghash_from h y (padded (x ++ r)) ≡ ghash_from h (dot (bit_xor y (num_at x 0 16)) h) (padded r)
unfolding ghash_from
absorb-part h y x r e l = ap (ghash_from h y) (padded-part x r e l)

pub absorb-none : (h y : ℕ) (s : List ℕ) → length s ≡ 0 → ghash_from h y (padded s) ≡ y
unfolding ghash_from
absorb-none h y s e = ap (ghash_from h y) (padded-none s e)

-- past the end of s each byte is 0
num-end : (s : List ℕ) (k n : ℕ) → length s ≤ k → num_at s 0 (k + n) ≡ num_at s 0 k * 2 ^ (8 * n)
unfolding num_at
num-end s k zero h = ap (num_at s 0) (add-zero k) ∙ sym (mul-one (num_at s 0 k))
num-end s k (suc n) h =
    let p : 2 ^ (8 * suc n) ≡ 2 ^ (8 * n) * 256 = ap (λ (e : ℕ). 2 ^ e) (mul-suc 8 n) ∙ pow-add 2 (8 * n) 8 in
    ap (num_at s 0) (add-suc k n)
    ∙ ap₂ (λ (x y : ℕ). x * 256 + y) (num-end s k n h) (get_or-eq_default s 0 (omega arith))
    ∙ add-zero (num_at s 0 k * 2 ^ (8 * n) * 256)
    ∙ mul_assoc (num_at s 0 k) (2 ^ (8 * n)) 256
    ∙ ap (λ (x : ℕ). num_at s 0 k * x) (sym p)

-- the one block of one to four bytes
pub short-block : (s : List ℕ) → length s < 5 → num_at s 0 16 % 2 ^ 96 ≡ 0
short-block s h =
    let e : num_at s 0 16 ≡ num_at s 0 4 * 2 ^ 96 = num-end s 4 12 (omega arith) in
    omega arith

pub short-hash : (h : ℕ) (s : List ℕ) → 0 < length s → length s < 5 → ghash_from h 0 (padded s) ≡ dot (num_at s 0 16) h
unfolding padded blocks_in blocks_from ghash_from
short-hash h s l m =
    let e : (length s + 15) / 16 ≡ 1 = omega arith in
    ap (λ (n : ℕ). ghash_from h 0 (blocks_from s 0 n)) e ∙ ap (λ (x : ℕ). dot x h) (xor_zero_l (num_at s 0 16))

pub ghash-append : (h y : ℕ) (xs ys : List ℕ) → ghash_from h y (xs ++ ys) ≡ ghash_from h (ghash_from h y xs) ys
unfolding ghash_from
ghash-append h y [] ys = refl
ghash-append h y (x ∷ xs) ys = ghash-append h (dot (bit_xor y x) h) xs ys

pub hash-parts : (h a c : List ℕ)
    → hash_of h a c ≡ bytes_of (dot (bit_xor (ghash_from (num_at h 0 16) (ghash_from (num_at h 0 16) 0 (padded a)) (padded c)) (len_bits a * 2 ^ 64 + len_bits c)) (num_at h 0 16)) 16
unfolding hash_of ghash ghash_from
hash-parts h a c =
    let k : ℕ = num_at h 0 16 in
    let l : ℕ = len_bits a * 2 ^ 64 + len_bits c in
    ap (λ (y : ℕ). bytes_of y 16)
    (ghash-append k 0 (padded a ++ padded c) (l ∷ [])
    ∙ ap (λ (y : ℕ). dot (bit_xor y l) k) (ghash-append k 0 (padded a) (padded c)))
