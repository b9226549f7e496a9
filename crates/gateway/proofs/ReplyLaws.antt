-- Reply: what is known of an accepted one, and that what the code hands over makes its packet and its count of blocks.
use mathlib.Core.Path.{◌≡◌, refl}
use mathlib.Core.Bool.{true}
use mathlib.Core.List.{List, [], ◌∷◌, ◌++◌}
use Prim.Native.Nat.{ℕ, ◌+◌, ◌≤◌}
use native.Mathlib.Omega.{arith}
use borrow.Author.Tests.{ltb-false, not-false}
use lib.ListN.{length}
use Rattle.octets.specs.Checks.{◌when◌}
use Rattle.octets.specs.Little.{octets}
use Rattle.octets.proofs.CheckLaws.{passed-of}
use Rattle.view.specs.Phases.{is_open, owes}
use Rattle.view.specs.declared.View.{View}
use Rattle.view.proofs.CountedLaws.{such}
use Rattle.fields.specs.Reply.{reply_vector, reply_lead}
use Rattle.packet.specs.Sealed.{sealed_packet, sealed_blocks}
use Rattle.packet.proofs.SealedLaws.{packet-length}
use Rattle.gateway.specs.Reply.{reply_refusal, reply_text, reply_bytes, reply_blocks}
use Rattle.packet.proofs.SealedLaws.{blocks-counted}

-- what is known of an accepted reply for number n to host h, with m bytes of payload and a room of k bytes
pub record Replies (v : View) (h n m k : ℕ) : Type 0 where
  pub good : v.good ≡ true
  pub host : (1 ≤ h) × (h ≤ v.hosts)
  pub connected : is_open v.held.phase ≡ true
  pub owed : owes v.held.phase n ≡ true
  pub payload : m ≤ 16384
  pub room : 32 + m ≤ k

pub replies : (v : View) (h n m k : ℕ) → reply_refusal v h n m k ≡ 0 → Replies v h n m k
unfolding reply_refusal
replies v h n m k e =
    let rows = passed-of (39 when _ ∷ 4 when _ ∷ 6 when _ ∷ 29 when _ ∷ 30 when _ ∷ 7 when _ ∷ []) refl e in
    let more = rows.1.1 in record {
      good = not-false v.good rows.0;
      host = such h v.hosts rows.1.0;
      connected = not-false (is_open v.held.phase) more.0;
      owed = not-false (owes v.held.phase n) more.1.0;
      payload = ltb-false 16384 m more.1.1.0;
      room = ltb-false k (32 + m) more.1.1.1.0;
    }

module _ (key : List ℕ) (n : ℕ) (payload room : List ℕ) (h : 32 + length payload ≤ length room) where
  -- before the payload stand vector and tag, and 4 bytes of the text
  packet-fits : length (sealed_packet key [] (reply_vector n) (reply_text n payload)) ≤ length room
  unfolding reply_vector reply_text reply_lead octets
  packet-fits = omega (arith, packet-length key [] (reply_vector n) (reply_text n payload) refl)

  pub reply-sealed : (v l : List ℕ) → v ≡ reply_vector n → l ≡ reply_lead n (length payload)
      → (sealed_packet key [] v (l ++ payload) ≡ reply_bytes key n payload)
      × (sealed_blocks key [] v (l ++ payload) room ≡ length (reply_blocks key n payload))
  unfolding reply_bytes reply_blocks reply_text
  reply-sealed v l ev el = rw (ev, el) (refl, blocks-counted key [] (reply_vector n) (reply_text n payload) room packet-fits)
