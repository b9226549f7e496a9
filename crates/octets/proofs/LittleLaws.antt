-- Numbers and their bytes, little-endian: k bytes write each number below 256 ^ k and read back as it, bytes are written back as
-- they were read, and the number of a part is that of its first bytes plus the weighted number of the rest.
use mathlib.Core.Path.{◌≡◌, refl, ap, ◌∙◌}
use mathlib.Core.List.{List, [], ◌∷◌}
use Prim.Native.Nat.{ℕ, zero, suc, ◌+◌, ◌*◌, ◌/◌, ◌%◌, ◌^◌, ◌<◌, ◌≤◌}
use native.Mathlib.Nat.{zero-add, suc-add, mul_assoc, pow-zero, pow-succ'}
use native.Mathlib.Numerals.{add-one}
use native.Mathlib.Omega.{arith}
use lib.ListN.{length, get_or, take, drop, drop_of_length-le}
use lib.Seq.{drop-cons, take-nil}
use Rattle.octets.specs.Little.{number, octets, Bytes}
use Rattle.octets.specs.Room.{part, placed}
use Rattle.octets.proofs.RoomLaws.{part_placed}

pub length-octets : (k n : ℕ) → length (octets k n) ≡ k
unfolding octets
length-octets zero n = refl
length-octets (suc k) n = ap suc (length-octets k (n / 256))

pub bytes-octets : (k n : ℕ) → Bytes (octets k n)
unfolding octets
bytes-octets zero n = tt
bytes-octets (suc k) n = (omega arith, bytes-octets k (n / 256))

pub number_lt : (bs : List ℕ) → Bytes bs → number bs < 256 ^ length bs
unfolding number
number_lt [] h = omega arith
number_lt (b ∷ bs) h = rw pow-succ' (omega (arith, number_lt bs h.1))

pub number-octets : (k n : ℕ) → n < 256 ^ k → number (octets k n) ≡ n
unfolding number octets
number-octets zero n h = omega (arith, pow-zero 256)
number-octets (suc k) n h = omega (arith, number-octets k (n / 256) (omega (arith, pow-succ' 256 k)))

pub octets-number : (bs : List ℕ) → Bytes bs → octets (length bs) (number bs) ≡ bs
unfolding number octets
octets-number [] h = refl
octets-number (b ∷ bs) h =
    let q : (b + 256 * number bs) / 256 ≡ number bs = omega arith in
    let r : (b + 256 * number bs) % 256 ≡ b = omega arith in
    rw (q, r, octets-number bs h.1)

-- the first j bytes, and the next k
pub number-part-split : (j k : ℕ) (t : List ℕ) → number (take (j + k) t) ≡ number (take j t) + 256 ^ j * number (take k (drop j t))
unfolding number
number-part-split zero k t = rw (zero-add k) (omega (arith, pow-zero 256))
number-part-split (suc j) k [] = simp (suc-add, take-nil) (omega arith)
number-part-split (suc j) k (b ∷ t) =
    rw (suc-add, pow-succ', mul_assoc, number-part-split j k t) (omega arith)

-- past the end of s there is no byte
pub number_past : (s : List ℕ) (at k : ℕ) → length s ≤ at → number (part s at k) ≡ 0
unfolding number
number_past s at k h = rw (drop_of_length-le s h, take-nil k)

pub number-byte : (s : List ℕ) (at : ℕ) → at < length s → number (part s at 1) ≡ get_or s at 0
unfolding number
number-byte s at h = rw (drop-cons s at 0) (omega arith)

-- a number that was placed is read back
pub number-placed : (d : List ℕ) (at k n : ℕ) → at + k ≤ length d → n < 256 ^ k → number (part (placed d at (octets k n)) at k) ≡ n
number-placed d at k n h b =
    let e = length-octets k n in
    ap number (rw e at (part_placed d at (octets k n) (rw e h))) ∙ number-octets k n b
