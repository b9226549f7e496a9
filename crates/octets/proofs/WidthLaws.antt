-- std's numbers and bytes are this crate's: `to_le_bytes` writes what `octets` does, and `from_le_bytes` reads what `number` does.
use mathlib.Core.Path.{◌≡◌, refl, sym, ap, ◌∙◌}
use mathlib.Core.List.{List, [], ◌∷◌, ◌++◌}
use Prim.Native.Nat.{ℕ, zero, suc, ◌+◌, ◌*◌, ◌/◌, ◌%◌, ◌^◌}
use native.Mathlib.Nat.{pow-zero, pow-succ', mul_comm, div-div-eq-div-mul}
use native.Mathlib.Numerals.{add-one}
use native.Mathlib.Omega.{arith}
use lib.ListN.{length, get_or, take, drop, replicate}
use lib.Seq.{take_all}
use Rattle.std.specs.Int.{Width, w8, w16, w32, w64, w128, byte_len, byte_at, byte_worth, bytes_low_first, sum_through, to_le_bytes, from_le_bytes}
use Rattle.octets.specs.Little.{number, octets}
use Rattle.octets.specs.Room.{part, filled, number_at}
use Rattle.octets.proofs.RoomLaws.{length-filled}
use Rattle.octets.proofs.LittleLaws.{number-part-split}

-- byte i of n
byte : (i n : ℕ) → byte_at i n ≡ n / 256 ^ i % 256
byte zero n = omega (arith, pow-zero 256)
byte (suc i) n = refl

low_first : (i k n : ℕ) → bytes_low_first i k n ≡ octets k (n / 256 ^ i)
unfolding octets
low_first i zero n = refl
low_first i (suc k) n =
    let q : n / 256 ^ i / 256 ≡ n / 256 ^ suc i = rw (pow-succ', mul_comm) (div-div-eq-div-mul n (256 ^ i) 256) in
    rw (byte i n, low_first (suc i) k n, q)

pub little_bytes : (w : Width) (n : ℕ) → to_le_bytes w n ≡ octets (byte_len w) n
little_bytes w n = low_first 0 (byte_len w) n ∙ ap (octets (byte_len w)) (omega (arith, pow-zero 256))

pub number_one : (s : List ℕ) (j : ℕ) → number (part s j 1) ≡ get_or s j 0
unfolding number
number_one [] zero = refl
number_one [] (suc j) = refl
number_one (b ∷ s) zero = omega arith
number_one (b ∷ s) (suc j) = number_one s j

worth : (i b : ℕ) → byte_worth i b ≡ 256 ^ i * b
worth zero b = omega (arith, pow-zero 256)
worth (suc i) b = mul_comm b (256 ^ suc i)

sums : (s : List ℕ) (k : ℕ) → sum_through (λ i. byte_worth i (get_or s i 0)) k ≡ number (take (k + 1) s)
sums s zero = sym (number_one s 0)
sums s (suc k) =
    rw (sums s k, worth (suc k) (get_or s (suc k) 0), ← number_one s (suc k), ← add-one k) (sym (number-part-split (k + 1) 1 s))

pub little_number : (w : Width) (s : List ℕ) → from_le_bytes w s ≡ number_at s 0 (byte_len w)
little_number w8 s = sums s 0
little_number w16 s = sums s 1
little_number w32 s = sums s 3
little_number w64 s = sums s 7
little_number w128 s = sums s 15

-- what the string doesn't reach counts as no byte, and as 0
number_zeros : (j : ℕ) → number (replicate j 0) ≡ 0
unfolding number
number_zeros zero = refl
number_zeros (suc j) = omega (arith, number_zeros j)

number_rest : (j k : ℕ) → number (drop j (replicate k 0)) ≡ 0
unfolding number
number_rest zero k = number_zeros k
number_rest (suc j) zero = refl
number_rest (suc j) (suc k) = number_rest j k

number-before : (a z : List ℕ) → number z ≡ 0 → number (a ++ z) ≡ number a
unfolding number
number-before [] z h = h
number-before (b ∷ a) z h = omega (arith, number-before a z h)

pub number-filled : (k : ℕ) (s : List ℕ) (at : ℕ) → number (filled k s at) ≡ number_at s at k
unfolding filled
number-filled k s at = number-before (part s at k) (drop (length (part s at k)) (replicate k 0)) (number_rest (length (part s at k)) k)

-- what a number's bytes say, those that aren't there included
module _ (w : Width) (s : List ℕ) (at : ℕ) where
  abbrev there : List ℕ
  there = filled (byte_len w) s at

  pub number_read : {n : ℕ} {bs : List ℕ} → bs ≡ there → n ≡ from_le_bytes w bs → n ≡ number_at s at (byte_len w)
  number_read {n = n} {bs = bs} e f =
      f ∙ little_number w bs ∙ ap (λ (l : List ℕ). number (take (byte_len w) l)) e
      ∙ ap number (take_all (byte_len w) there (omega (arith, length-filled (byte_len w) s at)))
      ∙ number-filled (byte_len w) s at
