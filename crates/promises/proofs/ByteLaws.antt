-- What is made of bytes is made of bytes: parts of them, a block's encryption under a key of bytes, and the text of a ciphertext. And bytes are the
-- fields that are read off them, one after the other (`joined`, `field`).
use mathlib.Core.Path.{◌≡◌, refl, sym, ap, ◌∙◌}
use mathlib.Core.Bool.{Bool, true, ◌&&◌}
use mathlib.Core.List.{List, [], ◌∷◌, ◌++◌}
use Prim.Native.Nat.{ℕ, zero, suc, ◌+◌, ◌*◌, ◌/◌, ◌%◌, ◌^◌, ◌≤◌, ◌<◌}
use native.Mathlib.Omega.{arith}
use borrow.Author.Tests.{ltb-true}
use lib.Bits.{bit_xor, xor_lt}
use lib.Dec.{ltb}
use lib.ListN.{length, get_or, take, drop, take-append-drop}
use lib.Seq.{drop-drop}
use Rattle.octets.specs.Little.{octets, Bytes}
use Rattle.octets.specs.Room.{part, number_at}
use Rattle.octets.proofs.CheckLaws.{and_left, and_right}
use Rattle.octets.proofs.LittleLaws.{number_lt, octets-number}
use Rattle.octets.proofs.RoomLaws.{length_part}
use Rattle.aes.specs.Sbox.{table, sbox}
use Rattle.aes.specs.State.{cell, state}
use Rattle.aes.specs.KeyExpansion.{power, word_of, rot_word, sub_word, rcon, next_byte, next_key, round_key}
use Rattle.aes.specs.Cipher.{sub_bytes, shift_rows, last_round, cipher_by, cipher}
use Rattle.ghash.specs.Ghash.{blocks_in}
use Rattle.gcm.specs.Gctr.{inc32, counters, stream, xors, gctr}
use Rattle.gcm.specs.Gcm.{j0}
use Rattle.packet.specs.Sealed.{text_of}

-- ---- parts

take-bytes : (n : ℕ) (bs : List ℕ) → Bytes bs → Bytes (take n bs)
take-bytes zero bs h = tt
take-bytes (suc n) [] h = tt
take-bytes (suc n) (b ∷ bs) h = (h.0, take-bytes n bs h.1)

pub rest-bytes : (bs : List ℕ) → Bytes bs → (n : ℕ) → Bytes (drop n bs)
rest-bytes bs h zero = h
rest-bytes [] h (suc n) = tt
rest-bytes (b ∷ bs) h (suc n) = rest-bytes bs h.1 n

pub append-bytes : (bs cs : List ℕ) → Bytes bs → Bytes cs → Bytes (bs ++ cs)
append-bytes [] cs h k = k
append-bytes (b ∷ bs) cs h k = (h.0, append-bytes bs cs h.1 k)

byte_at : (bs : List ℕ) → Bytes bs → (i : ℕ) → get_or bs i 0 < 256
byte_at [] h i = omega arith
byte_at (b ∷ bs) h zero = h.0
byte_at (b ∷ bs) h (suc i) = byte_at bs h.1 i

module _ (bs : List ℕ) (h : Bytes bs) (at k : ℕ) where
  pub part_bytes : Bytes (part bs at k)
  part_bytes = take-bytes k (drop at bs) (rest-bytes bs h at)

  module _ (there : at + k ≤ length bs) where
    pub number-low : number_at bs at k < 256 ^ k
    number-low = rw (length_part bs at k there) at (number_lt (part bs at k) part_bytes)

    -- the number that a part says, written again
    pub octets-back : octets k (number_at bs at k) ≡ part bs at k
    octets-back = rw (length_part bs at k there) at (octets-number (part bs at k) part_bytes)

-- a part before what comes after it
pub joined : (t : List ℕ) (at k : ℕ) (rest : List ℕ) → rest ≡ drop (at + k) t → part t at k ++ rest ≡ drop at t
joined t at k rest e = ap (λ (l : List ℕ). part t at k ++ l) (e ∙ sym (drop-drop k at t)) ∙ take-append-drop k (drop at t)

-- and its number, written again, before that
pub field : (t : List ℕ) → Bytes t → (at k : ℕ) → at + k ≤ length t → {rest : List ℕ} → rest ≡ drop (at + k) t
    → octets k (number_at t at k) ++ rest ≡ drop at t
field t bytes at k h {rest} e = rw (octets-back t bytes at k h) (joined t at k rest e)

-- ---- AES

xor-byte : (a b : ℕ) → a < 256 → b < 256 → bit_xor a b < 256
xor-byte a b h k = xor_lt 8 a b h k

state-bytes : (f : ℕ → ℕ → ℕ) → ((r c : ℕ) → f r c < 256) → Bytes (state f)
state-bytes f h = (
  h 0 0,
  (
    h 1 0,
    (
      h 2 0,
      (
        h 3 0,
        (
          h 0 1,
          (
            h 1 1,
            (
              h 2 1,
              (
                h 3 1,
                (
                  h 0 2,
                  (
                    h 1 2,
                    (
                      h 2 2,
                      (
                        h 3 2,
                        (h 0 3, (h 1 3, (h 2 3, (h 3 3, tt)))),
                      ),
                    ),
                  ),
                ),
              ),
            ),
          ),
        ),
      ),
    ),
  ),
)

cell-byte : (s : List ℕ) → Bytes s → (r c : ℕ) → cell s r c < 256
cell-byte s h r c = byte_at s h (r % 4 + 4 * (c % 4))

-- one test over the table
abbrev small : List ℕ → Bool
small [] = true
small (b ∷ bs) = ltb b 256 && small bs

small_bytes : (bs : List ℕ) → small bs ≡ true → Bytes bs
small_bytes [] e = tt
small_bytes (b ∷ bs) e = (ltb-true b 256 (and_left (ltb b 256) (small bs) e), small_bytes bs (and_right (ltb b 256) (small bs) e))

table-bytes : Bytes table
unfolding table
table-bytes = small_bytes table refl

sbox-byte : (b : ℕ) → sbox b < 256
unfolding sbox
sbox-byte b = byte_at table table-bytes b

power-byte : (n : ℕ) → power n < 256
unfolding power
power-byte zero = omega arith
power-byte (suc n) =
    let h = power-byte n in
    xor-byte (power n * 2 % 256) (power n / 128 * 0x1b) (omega arith) (omega arith)

rcon-byte : (rc r : ℕ) → rc < 256 → rcon rc r < 256
rcon-byte rc zero h = h
rcon-byte rc (suc r) h = omega arith

next-byte : (rc : ℕ) (k : List ℕ) → rc < 256 → Bytes k → (r c : ℕ) → next_byte rc k r c < 256
next-byte rc k h b r zero =
    let w : List ℕ = rot_word (word_of k 3) in
    xor-byte _ _ (cell-byte k b r 0)
    (xor-byte _ _ (byte_at (sub_word w) (sbox-byte _, (sbox-byte _, (sbox-byte _, (sbox-byte _, tt)))) r) (rcon-byte rc r h))
next-byte rc k h b r (suc c) = xor-byte _ _ (cell-byte k b r (suc c)) (next-byte rc k h b r c)

round-bytes : (key : List ℕ) → Bytes key → (l : ℕ) → Bytes (round_key key l)
unfolding round_key next_key
round-bytes key h zero = state-bytes (cell key) (cell-byte key h)
round-bytes key h (suc l) =
    state-bytes (next_byte (power l) (round_key key l)) (next-byte (power l) (round_key key l) (power-byte l) (round-bytes key h l))

last-bytes : (s k : List ℕ) → Bytes k → Bytes (last_round s k)
unfolding last_round
last-bytes s k h =
    let put : Bytes (sub_bytes s) = state-bytes (λ r c. sbox (cell s r c)) (λ r c. sbox-byte _) in
    let shifted : Bytes (shift_rows (sub_bytes s)) = state-bytes (λ r c. cell (sub_bytes s) r (c + r)) (λ r c. cell-byte (sub_bytes s) put r (c + r)) in
    state-bytes (λ r c. bit_xor (cell (shift_rows (sub_bytes s)) r c) (cell k r c))
    (λ r c. xor-byte _ _ (cell-byte (shift_rows (sub_bytes s)) shifted r c) (cell-byte k h r c))

pub cipher-bytes : (key block : List ℕ) → Bytes key → Bytes (cipher key block)
unfolding cipher cipher_by
cipher-bytes key block h = last-bytes _ (round_key key 10) (round-bytes key h 10)

-- ---- GCTR

xors-bytes : (xs ks : List ℕ) → Bytes xs → Bytes ks → Bytes (xors xs ks)
unfolding xors
xors-bytes [] ks h k = tt
xors-bytes (x ∷ xs) [] h k = tt
xors-bytes (x ∷ xs) (s ∷ ss) h k = (xor-byte x s h.0 k.0, xors-bytes xs ss h.1 k.1)

stream-bytes : (key : List ℕ) → Bytes key → (bs : List (List ℕ)) → Bytes (stream (cipher key) bs)
unfolding stream
stream-bytes key h [] = tt
stream-bytes key h (b ∷ bs) = append-bytes (cipher key b) (stream (cipher key) bs) (cipher-bytes key b h) (stream-bytes key h bs)

pub text-bytes : (key iv c : List ℕ) → Bytes key → Bytes c → Bytes (text_of (cipher key) iv c).bytes
unfolding text_of gctr
text-bytes key iv c h b = xors-bytes c _ b (stream-bytes key h (counters (inc32 (j0 iv)) (blocks_in (length c))))
