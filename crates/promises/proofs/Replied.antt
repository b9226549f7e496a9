-- "Reply: vector (12), tag (16), then encrypted sequence number (2), payload length (2), payload; no additional data. Its vector is 128, 0, the
-- sequence number (2), eight zeros.": what the server seals for an accepted reply opens at the client, under the connection's key, with the same
-- payload (`reply-written`, `reply-opens`); and only under its number (`reply-only`).
use mathlib.Core.Path.{◌≡◌, refl, sym, ap, ◌∙◌}
use mathlib.Core.Logic.{◌≢◌}
use mathlib.Core.Bool.{true, false, not}
use mathlib.Core.List.{List, [], ◌∷◌}
use Prim.Native.Nat.{ℕ, zero, suc, ◌+◌, ◌-◌, ◌/◌, ◌%◌, ◌≤◌, ◌<◌}
use native.Mathlib.Omega.{arith}
use borrow.Author.Tests.{eq-eqb, le-ltb}
use lib.Dec.{ltb}
use lib.ListN.{length, drop}
use Rattle.octets.specs.Checks.{◌when◌, refusal}
use Rattle.octets.specs.Same.{same}
use Rattle.octets.specs.Room.{part, number_at, at_start}
use Rattle.octets.specs.Little.{number, octets}
use Rattle.octets.proofs.RoomLaws.{placed-start}
use Rattle.octets.proofs.SameLaws.{same_refl, differ_same}
use Rattle.aes.specs.Cipher.{cipher}
use Rattle.ghash.specs.Ghash.{blocks_in}
use Rattle.state.specs.declared.State.{State}
use Rattle.state.specs.Flat.{Sized}
use Rattle.state.proofs.RecordLaws.{sized-record_of}
use Rattle.view.specs.Counted.{no_such}
use Rattle.view.specs.View.{see}
use Rattle.view.proofs.ViewLaws.{held-there}
use Rattle.fields.specs.Reply.{reply_vector, reply_lead}
use Rattle.packet.specs.Sealed.{right_tag}
use Rattle.packet.proofs.SealedLaws.{packet-length}
use Rattle.gateway.specs.Reply.{reply_refusal, reply_text, reply_bytes, replying, reply_room}
use Rattle.gateway.proofs.ReplyLaws.{Replies, replies}
use Rattle.client.specs.OpenReply as O
use Rattle.client.specs.OpenReply.{Opened, reply_outer, reply_inner, opened, open_room}
use Rattle.client.proofs.OpenLaws as C
use Rattle.promises.specs.Step.{answer, reply}
use Rattle.promises.specs.Packets.{key_of, sent}
use Rattle.promises.proofs.SealedBack.{vector-part, sealed-tag, sealed-text}

-- ---- a packet of a reply's length with the vector of number n, where the client expects number m

module _ (key : List ℕ) (ek : length key ≡ 16) (n : ℕ) (p room : List ℕ) (low : 32 ≤ length p) (high : length p ≤ 16416)
    (vector : part p 0 12 ≡ reply_vector n) (m : ℕ) where
  -- the rows that are left
  outer-left : reply_outer key m p (length room)
      ≡ refusal (5 when not (same (reply_vector n) (reply_vector m)) ∷ 7 when ltb (length room) (length p - 32) ∷ [])
  unfolding reply_outer
  outer-left = rw (eq-eqb (length key) 16 ek, le-ltb (length p) 32 low, le-ltb 16416 (length p) high, vector)

  -- another number has another vector
  module _ (hn : n < 65536) (hm : m < 65536) (d : m ≢ n) where
    apart : reply_vector n ≡ reply_vector m → ⊥
    unfolding reply_vector octets
    apart e =
        let first : n % 256 ≡ m % 256 = cc in
        let second : n / 256 % 256 ≡ m / 256 % 256 = cc in
        d (omega arith)

    outer-five : reply_outer key m p (length room) ≡ 5
    outer-five = outer-left ∙ rw (differ_same (reply_vector n) (reply_vector m) apart)

    pub other-number : (opened key m p room).number ≡ 5
    other-number = sym (ap (λ (a : Opened). a.number) (C.outer-refuses key m p room 5 (sym outer-five) (λ e. omega arith)).0)

-- ---- the packet of a reply, opened

pub reply-long : (key : List ℕ) (n : ℕ) (payload : List ℕ) → length (reply_bytes key n payload) ≡ 32 + length payload
unfolding reply_bytes reply_vector reply_text reply_lead octets
reply-long key n payload = omega (arith, packet-length key [] (reply_vector n) (reply_text n payload) refl)

module _ (key : List ℕ) (ek : length key ≡ 16) (n : ℕ) (payload : List ℕ) (few : length payload ≤ 16384) where
  abbrev P : List ℕ
  P = reply_bytes key n payload

  abbrev T : List ℕ
  T = reply_text n payload

  long : length P ≡ 32 + length payload
  long = reply-long key n payload

  vector-of : part P 0 12 ≡ reply_vector n
  unfolding reply_bytes reply_vector octets
  vector-of = vector-part key [] (reply_vector n) T 0 refl refl

  tag_of : right_tag (cipher key) [] (O.vector_of P) (O.tag_in P) (O.encrypted P) ≡ true
  unfolding reply_bytes reply_vector octets
  tag_of = sealed-tag key [] (reply_vector n) T 0 refl refl

  text_of : (O.reply_text (cipher key) P).bytes ≡ T
  unfolding reply_bytes reply_vector octets O.reply_text
  text_of = sealed-text key [] (reply_vector n) T 0 refl refl

  payload-of : drop 4 (O.reply_text (cipher key) P).bytes ≡ payload
  unfolding reply_text reply_lead octets
  payload-of = ap (drop 4) text_of

  -- another number is refused: the vector differs
  five : (room : List ℕ) (m : ℕ) → n < 65536 → m < 65536 → m ≢ n → (opened key m P room).number ≡ 5
  five room m = other-number key ek n P room (omega (arith, long)) (omega (arith, long)) vector-of m

  module _ (room : List ℕ) (low : n < 65536) (fits : length payload ≤ length room) where
    outer-passes : reply_outer key n P (length room) ≡ 0
    outer-passes =
        outer-left key ek n P room (omega (arith, long)) (omega (arith, long)) vector-of n
        ∙ rw (same_refl (reply_vector n), le-ltb (length room) (length P - 32) (omega (arith, long)))

    inner-passes : reply_inner n (length P - 32) (O.reply_text (cipher key) P).bytes ≡ 0
    unfolding reply_inner reply_text reply_lead octets number
    inner-passes =
        rw (
          text_of,
          eq-eqb (number_at T 2 2) (length P - 32) (omega (arith, long)),
          eq-eqb (number_at T 0 2) n (omega arith),
        )

    opens : ((opened key n P room).number ≡ 0) × ((opened key n P room).length ≡ length payload) × (open_room key n P room ≡ at_start payload room)
    opens =
        let o = C.reply-opens key n P room outer-passes tag_of (blocks_in (length P - 28)) inner-passes refl in (
          sym (ap (λ (a : Opened). a.number) o.0),
          sym (ap (λ (a : Opened). a.length) o.0) ∙ omega (arith, long),
          sym o.1 ∙ rw payload-of (placed-start room payload fits),
        )

-- ---- an accepted reply for number n, of two bytes, to host h

there-is : (i count : ℕ) → 1 ≤ i → i ≤ count → no_such i count ≡ false
unfolding no_such
there-is zero count low high = absurd (omega arith)
there-is (suc i) count low high = le-ltb count (suc i) high

module _ (s : State) (sized : Sized s.records) (h n : ℕ) (payload room : List ℕ) (two : n < 65536)
    (accepted : (answer s (reply h n payload room)).number ≡ 0) where
  known : Replies (see s.rights s.records h) h n (length payload) (length room)
  unfolding answer replying
  known = replies _ _ _ _ _ accepted

  key-long : length (key_of s h) ≡ 16
  key-long = (sized-record_of s.records (h - 1) sized).key

  -- the server wrote its packet at the start of the lent room
  pub reply-written : (answer s (reply h n payload room)).room ≡ at_start (sent s h n payload) room
  unfolding answer replying reply_room see
  reply-written =
      let e : reply_refusal (see s.rights s.records h) h n (length payload) (length room) ≡ 0 = accepted in
      rw (e, held-there s.rights s.records h (there-is h s.rights.hosts known.host.0 known.host.1))
      (placed-start room (sent s h n payload) (omega (arith, long (key_of s h) key-long n payload known.payload, known.room)))

  -- the packet opens at the client with the same payload, in every room that holds the payload
  pub reply-opens : (other : List ℕ) → length payload ≤ length other
      → ((opened (key_of s h) n (sent s h n payload) other).number ≡ 0)
      × ((opened (key_of s h) n (sent s h n payload) other).length ≡ length payload)
      × (open_room (key_of s h) n (sent s h n payload) other ≡ at_start payload other)
  reply-opens other fits = opens (key_of s h) key-long n payload known.payload other two fits

  -- a client that expects another number refuses it: the vector differs
  pub reply-only : (m : ℕ) → m < 65536 → m ≢ n → (other : List ℕ) → (opened (key_of s h) m (sent s h n payload) other).number ≡ 5
  reply-only m low d other = five (key_of s h) key-long n payload known.payload other m two low d
