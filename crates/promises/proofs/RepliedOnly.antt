-- "a reply sealed by the server opens at the client with the same payload, and only under its key and number": the words from "and only" on, of which
-- `Replied` has those before. What the client accepts is the reply that its key and number make of the payload that it is handed (`reply-rebuilt`).
-- A packet opens with one number at most (`reply-one-number`). A reply that was sealed under another key opens only where it is, byte for byte, what
-- the client's own key makes of the same number and of as long a payload (`reply-other-key`): under GCM two keys may make one packet, so that more
-- than this doesn't hold of all keys.
use mathlib.Core.Path.{◌≡◌, refl, sym, ap, ◌∙◌}
use mathlib.Core.Logic.{◌≢◌}
use mathlib.Core.Bool.{true, not}
use mathlib.Core.List.{List, [], ◌∷◌, append_assoc}
use Prim.Native.Nat.{ℕ, ◌-◌, ◌≤◌, ◌<◌}
use native.Mathlib.Omega.{arith}
use borrow.Author.Tests.{not-false, eqb-true}
use lib.Dec.{eqb, ltb}
use lib.ListN.{length, take, drop, length-drop}
use lib.Seq.{take_at}
use Rattle.octets.specs.Checks.{◌when◌}
use Rattle.octets.specs.Little.{octets, Bytes}
use Rattle.octets.specs.Room.{part, number_at}
use Rattle.octets.specs.Same.{same}
use Rattle.octets.proofs.CheckLaws.{passed-of, then-passed}
use Rattle.octets.proofs.LittleLaws.{bytes-octets}
use Rattle.octets.proofs.SameLaws.{same_true}
use Rattle.aes.specs.Cipher.{cipher}
use Rattle.aes.proofs.CipherLaws.{cipher-length}
use Rattle.fields.specs.Reply.{reply_vector, reply_lead}
use Rattle.packet.specs.Sealed.{right_tag}
use Rattle.packet.proofs.CommandLaws.{text-length}
use Rattle.gateway.specs.Reply.{reply_text, reply_bytes}
use Rattle.client.specs.OpenReply as O
use Rattle.client.specs.OpenReply.{reply_outer, reply_tagged, reply_inner, open_refusal, opened, open_room}
use Rattle.client.proofs.OpenLaws.{outer-passed}
use Rattle.promises.proofs.ByteLaws.{append-bytes, rest-bytes, field, text-bytes}
use Rattle.promises.proofs.Replied.{reply-long, other-number}
use Rattle.promises.proofs.SealedBack.{sealed-again, sealed-bytes}
use Rattle.promises.proofs.Written.{open-writes}

-- "only under its key and number": what the client accepts under a key, where it expects a number, is the reply that this key makes of that number
-- and of the payload that the client is handed
abbrev pub ReplyRebuilt : Type 0
ReplyRebuilt =
    (key : List ℕ) (n : ℕ) (p room : List ℕ) → Bytes key → Bytes p → (opened key n p room).number ≡ 0
    → reply_bytes key n (take (length p - 32) (open_room key n p room)) ≡ p

-- "only under its .. number": what is accepted with number n is refused by 5 with every other number m, in every room, under that key and under every
-- other of its length
abbrev pub ReplyOneNumber : Type 0
ReplyOneNumber =
    (key : List ℕ) (n m : ℕ) (p room : List ℕ) → n < 65536 → m < 65536 → n ≢ m → (opened key n p room).number ≡ 0
    → (k other : List ℕ) → length k ≡ length key → (opened k m p other).number ≡ 5

-- "only under its key": a reply sealed under another key is accepted only if it is also the reply that the client's key k makes, of the same number
-- and of a payload of the same length, the one that the client is handed
abbrev pub ReplyOtherKey : Type 0
ReplyOtherKey =
    (key k : List ℕ) (n : ℕ) (payload room : List ℕ) → Bytes key → Bytes k → Bytes payload
    → (opened k n (reply_bytes key n payload) room).number ≡ 0
    → (reply_bytes k n (take (length payload) (open_room k n (reply_bytes key n payload) room)) ≡ reply_bytes key n payload)
    × (length (take (length payload) (open_room k n (reply_bytes key n payload) room)) ≡ length payload)

-- ---- what is accepted

module _ (key : List ℕ) (n : ℕ) (p room : List ℕ) (accepted : (opened key n p room).number ≡ 0) where
  abbrev t : List ℕ
  t = (O.reply_text (cipher key) p).bytes

  stages : (reply_outer key n p (length room) ≡ 0) × (reply_tagged (cipher key) p ≡ 0) × (reply_inner n (length p - 32) t ≡ 0)
  unfolding opened open_refusal
  stages =
      let outer = then-passed (reply_outer key n p (length room)) _ accepted in
      let inner = then-passed (reply_tagged (cipher key) p) _ outer.1 in
      (outer.0, inner.0, inner.1)

  lengths : (length key ≡ 16) × (32 ≤ length p) × (length p ≤ 16416) × (length p - 32 ≤ length room)
  lengths = outer-passed key n p room stages.0

  vector-same : part p 0 12 ≡ reply_vector n
  unfolding reply_outer
  vector-same =
      let rows = passed-of
      (28 when not (eqb (length key) 16)
      ∷ 1 when ltb (length p) 32
      ∷ 2 when ltb 16416 (length p)
      ∷ 5 when not (same (part p 0 12) (reply_vector n))
      ∷ 7 when ltb (length room) (length p - 32)
      ∷ []) refl stages.0 in
      same_true (part p 0 12) (reply_vector n) (not-false _ rows.1.1.1.0)

  tag-true : right_tag (cipher key) [] (O.vector_of p) (O.tag_in p) (O.encrypted p) ≡ true
  unfolding reply_tagged
  tag-true = not-false _ (passed-of (8 when _ ∷ []) refl stages.1).0

  fields-same : (number_at t 2 2 ≡ length p - 32) × (number_at t 0 2 ≡ n)
  unfolding reply_inner
  fields-same =
      let rows = passed-of (11 when not (eqb (number_at t 2 2) (length p - 32)) ∷ 12 when not (eqb (number_at t 0 2) n) ∷ []) refl stages.2 in
      (eqb-true _ _ (not-false _ rows.0), eqb-true _ _ (not-false _ rows.1.0))

  -- the payload that the client is handed
  payload_same : take (length p - 32) (open_room key n p room) ≡ drop 4 t
  payload_same =
      let w = open-writes key n p room accepted in
      ap (take (length p - 32)) w.0 ∙ take_at (drop 4 t) _ (length p - 32) w.1

  text-long : length t ≡ length p - 28
  unfolding O.reply_text
  text-long = text-length (cipher key) (cipher-length key) (O.vector_of p) (O.encrypted p) ∙ length-drop 28 p

  -- of bytes: its text is that of a reply, and so it is that reply
  module _ (bk : Bytes key) (bc : Bytes (drop 28 p)) where
    bytes-text : Bytes t
    unfolding O.reply_text
    bytes-text = text-bytes key (O.vector_of p) (drop 28 p) bk bc

    text-again : reply_text n (drop 4 t) ≡ t
    unfolding reply_text reply_lead
    text-again =
        let long : 4 ≤ length t = omega (arith, text-long, lengths.1) in
        rw ((open-writes key n p room accepted).1, ← fields-same.0, ← fields-same.1)
        (simp append_assoc (field t bytes-text 0 2 (omega arith) (field t bytes-text 2 2 (omega arith) refl)))

    packet-again : reply_bytes key n (take (length p - 32) (open_room key n p room)) ≡ p
    unfolding reply_bytes O.reply_text
    packet-again = rw (payload_same, text-again, ← vector-same) (sealed-again key p 0 (omega (arith, lengths.1)) tag-true)

-- ---- the promises

pub reply-rebuilt : ReplyRebuilt
reply-rebuilt key n p room bk bp accepted = packet-again key n p room accepted bk (rest-bytes p bp 28)

pub reply-one-number : ReplyOneNumber
reply-one-number key n m p room hn hm d accepted k other same-long =
    let l = lengths key n p room accepted in
    other-number k (same-long ∙ l.0) n p other l.1 l.2 (vector-same key n p room accepted) m hn hm (λ e. d (sym e))

-- what a reply encrypts is bytes
reply-encrypted : (key : List ℕ) (n : ℕ) (payload : List ℕ) → Bytes key → Bytes payload → Bytes (drop 28 (reply_bytes key n payload))
unfolding reply_bytes reply_vector reply_text reply_lead octets
reply-encrypted key n payload bk bp =
    sealed-bytes key [] (reply_vector n) (reply_text n payload) 0 refl refl bk
    (append-bytes (reply_lead n (length payload)) payload
    (append-bytes (octets 2 n) (octets 2 (length payload)) (bytes-octets 2 n) (bytes-octets 2 (length payload))) bp)

pub reply-other-key : ReplyOtherKey
reply-other-key key k n payload room bk bo bp accepted =
    let p : List ℕ = reply_bytes key n payload in
    let size : length p - 32 ≡ length payload = omega (arith, reply-long key n payload) in
    let w = open-writes k n p room accepted in
    rw (← size) (
      packet-again k n p room accepted bo (reply-encrypted key n payload bk bp),
      ap length (payload_same k n p room accepted) ∙ w.1,
    )
