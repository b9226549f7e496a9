-- A packet under GCM read back: its parts are the additional data, the vector, the tag and the ciphertext that it was made of; the tag is right, and
-- the text is the one that was sealed. And a packet whose tag is right is the one that sealing its text makes (`sealed-again`).
use mathlib.Core.Path.{◌≡◌, ap, ◌∙◌}
use mathlib.Core.Bool.{true}
use mathlib.Core.List.{List, ◌++◌, append_assoc}
use Prim.Native.Nat.{ℕ, ◌+◌, ◌≤◌}
use native.Mathlib.Nat.{zero-add}
use native.Mathlib.Omega.{arith}
use lib.ListN.{length, take, drop, length-append}
use lib.Seq.{take_at, drop_at}
use Rattle.octets.specs.Little.{Bytes}
use Rattle.octets.specs.Room.{part, filled}
use Rattle.octets.proofs.RoomLaws.{filled-there}
use Rattle.octets.proofs.SameLaws.{same_refl, same_true}
use Rattle.aes.specs.Cipher.{cipher}
use Rattle.aes.proofs.CipherLaws.{cipher-length}
use Rattle.gcm.specs.Gctr.{inc32, gctr}
use Rattle.gcm.specs.Gcm.{j0, subkey, tag_of, Sealed, seal_under, seal}
use Rattle.gcm.proofs.GctrLaws.{gctr-twice}
use Rattle.gcm.proofs.GcmLaws.{tag-length}
use Rattle.packet.specs.Sealed.{right_tag, text_of, sealed_packet}
use Rattle.packet.proofs.SealedLaws.{packet-length}
use Rattle.promises.proofs.ByteLaws.{joined, text-bytes}

-- what stands after x, up to its own end
part_at : (x y z : List ℕ) (n m : ℕ) → length x ≡ n → length y ≡ m → part (x ++ y ++ z) n m ≡ y
part_at x y z n m ex ey = ap (take m) (ap (drop n) (append_assoc x y z) ∙ drop_at x (y ++ z) n ex) ∙ take_at y z m ey

module _ (key a iv text : List ℕ) (n : ℕ) (ea : length a ≡ n) (e12 : length iv ≡ 12) where
  abbrev P : List ℕ
  P = sealed_packet key a iv text

  abbrev S : Sealed
  S = seal (cipher key) iv a text

  long : length P ≡ n + 28 + length text
  long = omega (arith, packet-length key a iv text e12)

  sixteen : length S.tag ≡ 16
  unfolding seal seal_under
  sixteen = tag-length (cipher key) (cipher-length key) (subkey (cipher key)) iv a (gctr (cipher key) (inc32 (j0 iv)) text).bytes

  lead-back : part P 0 n ≡ a
  unfolding sealed_packet
  lead-back = rw (append_assoc (a ++ iv) S.tag S.bytes, append_assoc a iv (S.tag ++ S.bytes)) (take_at a (iv ++ (S.tag ++ S.bytes)) n ea)

  pub vector-part : part (sealed_packet key a iv text) n 12 ≡ iv
  unfolding sealed_packet
  vector-part = rw (append_assoc (a ++ iv) S.tag S.bytes) (part_at a iv (S.tag ++ S.bytes) n 12 ea e12)

  vector-back : filled 12 P n ≡ iv
  vector-back = filled-there 12 P n (omega (arith, long)) ∙ vector-part

  tag_back : filled 16 P (n + 12) ≡ S.tag
  unfolding sealed_packet
  tag_back =
      filled-there 16 P (n + 12) (omega (arith, long))
      ∙ part_at (a ++ iv) S.tag S.bytes (n + 12) 16 (omega (arith, length-append a iv)) sixteen

  rest_back : drop (n + 28) P ≡ S.bytes
  unfolding sealed_packet
  rest_back =
      drop_at (a ++ iv ++ S.tag) S.bytes (n + 28) (omega (arith, length-append (a ++ iv) S.tag, length-append a iv, sixteen))

  tag-right : right_tag (cipher key) a iv S.tag S.bytes ≡ true
  unfolding right_tag seal seal_under
  tag-right = same_refl S.tag

  text-right : (text_of (cipher key) iv S.bytes).bytes ≡ text
  unfolding text_of seal seal_under
  text-right = gctr-twice (cipher key) (cipher-length key) (inc32 (j0 iv)) text

  pub sealed-tag : right_tag (cipher key) (part (sealed_packet key a iv text) 0 n) (filled 12 (sealed_packet key a iv text) n)
      (filled 16 (sealed_packet key a iv text) (n + 12)) (drop (n + 28) (sealed_packet key a iv text)) ≡ true
  sealed-tag = rw (lead-back, vector-back, tag_back, rest_back) tag-right

  pub sealed-text : (text_of (cipher key) (filled 12 (sealed_packet key a iv text) n) (drop (n + 28) (sealed_packet key a iv text))).bytes ≡ text
  sealed-text = rw (vector-back, rest_back) text-right

  -- what is encrypted under a key of bytes is bytes
  pub sealed-bytes : Bytes key → Bytes text → Bytes (drop (n + 28) (sealed_packet key a iv text))
  unfolding text_of seal seal_under
  sealed-bytes bk bt = rw rest_back (text-bytes key iv text bk bt)

-- a packet p with n bytes of additional data, whose tag is right
module _ (key p : List ℕ) (n : ℕ) (long : n + 28 ≤ length p)
    (right : right_tag (cipher key) (part p 0 n) (filled 12 p n) (filled 16 p (n + 12)) (drop (n + 28) p) ≡ true) where
  abbrev iv : List ℕ
  iv = filled 12 p n

  abbrev c : List ℕ
  c = drop (n + 28) p

  abbrev t : List ℕ
  t = (text_of (cipher key) iv c).bytes

  coded-again : (seal (cipher key) iv (part p 0 n) t).bytes ≡ c
  unfolding seal seal_under text_of
  coded-again = gctr-twice (cipher key) (cipher-length key) (inc32 (j0 iv)) c

  tag-again : (seal (cipher key) iv (part p 0 n) t).tag ≡ filled 16 p (n + 12)
  unfolding seal seal_under right_tag text_of
  tag-again =
      ap (λ (x : List ℕ). (tag_of (cipher key) (subkey (cipher key)) iv (part p 0 n) x).bytes) coded-again
      ∙ same_true _ (filled 16 p (n + 12)) right

  pub sealed-again : sealed_packet key (part p 0 n) (part p n 12) (text_of (cipher key) (filled 12 p n) (drop (n + 28) p)).bytes ≡ p
  unfolding sealed_packet
  sealed-again =
      let vector = filled-there 12 p n (omega arith) in
      let after_tag : n + 28 ≡ n + 12 + 16 = omega arith in
      rw (← vector, tag-again, coded-again, vector, filled-there 16 p (n + 12) (omega arith))
      (simp append_assoc (joined p 0 n _ (rw zero-add (joined p n 12 _ (joined p (n + 12) 16 c (rw after_tag))))))
