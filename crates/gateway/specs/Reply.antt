-- Document 01: reply. "Reply: 39, 4, 6, 29, 30, 7." "Reply: vector (12), tag (16), then encrypted sequence number (2), payload length (2), payload; no
-- additional data." "One reply for the last accepted command, once."
use Rattle.std.specs.Prelude.{ℕ, ◌+◌, not, List, [], ◌∷◌, ◌++◌, ltb, length}
use Rattle.octets.specs.Checks.{◌when◌, refusal}
use Rattle.aes.specs.Cipher.{cipher}
use Rattle.gcm.specs.Gcm.{seal}
use Rattle.capability.specs.Calls.{answer, written}
use Rattle.capability.specs.Enciphered.{Enciphered, under_key}
use Rattle.state.specs.declared.Rights.{Rights}
use Rattle.state.specs.declared.Records.{Records}
use Rattle.state.specs.Records.{replied}
use Rattle.view.specs.Counted.{no_such}
use Rattle.view.specs.Phases.{is_open, owes}
use Rattle.view.specs.View.{see}
use Rattle.view.specs.declared.View.{View}
use Rattle.fields.specs.Reply.{reply_vector, reply_lead}
use Rattle.packet.specs.Sealed.{sealed_packet}
use Rattle.gateway.specs.Common.{moved, Changed}

-- the reply for number n to host h, with a payload of m bytes
unfoldable pub reply_refusal : View → ℕ → ℕ → ℕ → ℕ → ℕ
reply_refusal v h n m room = refusal
    (39 when not v.good
    ∷ 4 when no_such h v.hosts
    ∷ 6 when not (is_open v.held.phase)
    ∷ 29 when not (owes v.held.phase n)
    ∷ 30 when ltb 16384 m
    ∷ 7 when ltb room (32 + m)
    ∷ [])

-- its text, its bytes under the connection's key, and the blocks that they take
unfoldable pub reply_text : ℕ → List ℕ → List ℕ
reply_text n payload = reply_lead n (length payload) ++ payload

unfoldable pub reply_bytes : List ℕ → ℕ → List ℕ → List ℕ
reply_bytes key n payload = sealed_packet key [] (reply_vector n) (reply_text n payload)

unfoldable pub reply_blocks : List ℕ → ℕ → List ℕ → List Enciphered
reply_blocks key n payload = under_key key (seal (cipher key) (reply_vector n) [] (reply_text n payload)).enciphered

-- the answer, and the records after the call
unfoldable pub replying : Rights → Records → ℕ → ℕ → List ℕ → ℕ → Changed
replying r s h n payload room = record {
  answer = answer (reply_refusal (see r s h) h n (length payload) room) (reply_blocks (see r s h).held.key n payload);
  records = moved (reply_refusal (see r s h) h n (length payload) room) s h (replied (see r s h).held);
}

-- the lent room after the call
unfoldable pub reply_room : Rights → Records → ℕ → ℕ → List ℕ → List ℕ → List ℕ
reply_room r s h n payload room =
    written (reply_refusal (see r s h) h n (length payload) (length room)) (reply_bytes (see r s h).held.key n payload) room
