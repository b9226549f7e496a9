-- A packet under GCM: its length, what stands in a room where it is sealed or a ciphertext is deciphered, and the blocks enciphered.
use mathlib.Core.Path.{◌≡◌, sym, ap, ap₂, ◌∙◌}
use mathlib.Core.List.{List, ◌++◌}
use Prim.Native.Nat.{ℕ, ◌+◌, ◌≤◌, ◌<◌}
use native.Mathlib.Omega.{arith}
use borrow.Author.Tests.{le-leb, lt-leb}
use lib.ListN.{length, drop, length-append, length-map}
use Rattle.octets.specs.Room.{part, placed}
use Rattle.octets.proofs.RoomLaws.{placed-start, placed-short, part_placed}
use Rattle.aes.specs.Cipher.{cipher}
use Rattle.aes.specs.Prepared.{under}
use Rattle.aes.proofs.CipherLaws.{cipher-length, under-length}
use Rattle.ghash.specs.Ghash.{blocks_in}
use Rattle.gcm.specs.Gctr.{inc32, gctr}
use Rattle.gcm.specs.Gcm.{j0, subkey, Sealed, seal_under, seal}
use Rattle.gcm.proofs.GctrLaws.{gctr-length}
use Rattle.gcm.proofs.GcmLaws.{seal-count, seal-length, tag-length}
use Rattle.capability.specs.Enciphered.{under_key}
use Rattle.packet.specs.Sealed.{sealed_packet, sealed_blocks}
use Rattle.octets.proofs.PlacedLaws.{placed-again, placed-front}

-- GCTR of x at the start of a room, where x fits and where it doesn't
module _ (p icb x room : List ℕ) where
  pub room-done : length x ≤ length room → (gctr (under p) icb x).bytes ++ drop (length x) room ≡ placed room 0 (gctr (under p) icb x).bytes
  room-done h =
      let e = gctr-length (under p) (under-length p) icb x in
      ap (λ (n : ℕ). (gctr (under p) icb x).bytes ++ drop n room) (sym e) ∙ sym (placed-start room (gctr (under p) icb x).bytes (omega arith))

  pub room-short : length room < length x → room ≡ placed room 0 (gctr (under p) icb x).bytes
  room-short h = sym (placed-short room 0 (gctr (under p) icb x).bytes (omega (arith, gctr-length (under p) (under-length p) icb x)))

module _ (key a iv text : List ℕ) (e12 : length iv ≡ 12) where
  abbrev S : Sealed
  S = seal (cipher key) iv a text

  abbrev front : List ℕ
  front = a ++ iv ++ S.tag

  front_length : length front ≡ length a + 28
  unfolding seal seal_under
  front_length =
      omega (
        arith,
        length-append (a ++ iv) S.tag,
        length-append a iv,
        tag-length (cipher key) (cipher-length key) (subkey (cipher key)) iv a (gctr (cipher key) (inc32 (j0 iv)) text).bytes,
      )

  pub packet-length : length (sealed_packet key a iv text) ≡ length a + 28 + length text
  unfolding sealed_packet
  packet-length = omega (arith, length-append front S.bytes, front_length, seal-length (cipher key) (cipher-length key) iv a text)

  -- in a room where the packet fits: the text is placed, then sealed where it stands, and then the front is placed
  module _ (room : List ℕ) (fit : length a + 28 + length text ≤ length room) where
    abbrev at : ℕ
    at = length a + 28

    packet-placed : placed (placed (placed room at text) at S.bytes) 0 front ≡ placed room 0 (sealed_packet key a iv text)
    unfolding sealed_packet
    packet-placed =
        let e : length S.bytes ≡ length text = seal-length (cipher key) (cipher-length key) iv a text in
        ap (λ (d : List ℕ). placed d 0 front) (placed-again room at text S.bytes (sym e) (omega arith))
        ∙ placed-front room at front S.bytes front_length (omega arith)

    pub packet-made : (n : ℕ) (d₁ d₂ d₃ t : List ℕ) → n ≡ length text → d₁ ≡ placed room at text
        → d₂ ≡ placed d₁ at (seal (cipher key) iv a (part d₁ at n)).bytes → t ≡ (seal (cipher key) iv a (part d₁ at n)).tag
        → d₃ ≡ placed d₂ 0 (a ++ iv ++ t) → d₃ ≡ placed room 0 (sealed_packet key a iv text)
    packet-made n d₁ d₂ d₃ t en e₁ e₂ et e₃ =
        let lent : part d₁ at n ≡ text = ap₂ (λ (d : List ℕ) (k : ℕ). part d at k) e₁ en ∙ part_placed room at text fit in
        e₃
        ∙ ap₂ (λ (d x : List ℕ). placed d 0 (a ++ iv ++ x))
        (e₂ ∙ ap₂ (λ (d x : List ℕ). placed d at (seal (cipher key) iv a x).bytes) e₁ lent)
        (et ∙ ap (λ (x : List ℕ). (seal (cipher key) iv a x).tag) lent)
        ∙ packet-placed

    pub blocks-made : (n : ℕ) → n ≡ blocks_in (length text) → n + 2 ≡ sealed_blocks key a iv text room
    unfolding sealed_blocks
    blocks-made n e =
        rw (le-leb (length (sealed_packet key a iv text)) (length room) (omega (arith, packet-length)))
        (omega (arith, seal-count (cipher key) iv a text))

  -- in a room where it doesn't
  module _ (room : List ℕ) (h : length room < length a + 28 + length text) where
    pub packet-short : room ≡ placed room 0 (sealed_packet key a iv text)
    packet-short = sym (placed-short room 0 (sealed_packet key a iv text) (omega (arith, packet-length)))

    pub blocks-short : 0 ≡ sealed_blocks key a iv text room
    unfolding sealed_blocks
    blocks-short = rw (lt-leb (length (sealed_packet key a iv text)) (length room) (omega (arith, packet-length)))

-- where a packet fits, the count is that of the blocks enciphered under the key
pub blocks-counted : (key a iv text room : List ℕ) → length (sealed_packet key a iv text) ≤ length room
    → sealed_blocks key a iv text room ≡ length (under_key key (seal (cipher key) iv a text).enciphered)
unfolding sealed_blocks
blocks-counted key a iv text room h =
    rw (le-leb (length (sealed_packet key a iv text)) (length room) h) (sym (length-map (seal (cipher key) iv a text).enciphered _))
