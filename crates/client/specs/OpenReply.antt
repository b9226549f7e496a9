-- Document 01: opening a reply. "Open reply: 28, 1, 2, 5, 7, 8, 11, 12." The payload is written once the last check has passed.
use Rattle.std.specs.Prelude.{ℕ, ◌-◌, Result, Ok, Err, not, List, [], ◌∷◌, ◌++◌, eqb, ltb, length, drop}
use Rattle.octets.specs.Checks.{pick, is_zero, ◌when◌, refusal, ◌then◌}
use Rattle.octets.specs.Room.{part, number_at, filled}
use Rattle.octets.specs.Same.{same}
use Rattle.refusal.specs.declared.Refused.{Refused}
use Rattle.refusal.specs.Numbers.{refusal_number}
use Rattle.aes.specs.Cipher.{cipher}
use Rattle.gcm.specs.Gctr.{Out}
use Rattle.gcm.specs.Gcm.{zeros, subkey, tag_of}
use Rattle.capability.specs.Calls.{written}
use Rattle.capability.specs.Enciphered.{Enciphered, under_key, past}
use Rattle.fields.specs.Reply.{reply_vector}
use Rattle.packet.specs.Sealed.{right_tag, text_of}
use Rattle.client.specs.declared.open.Payload.{Payload}

-- what the opening of a reply answers
pub record Opened : Type 0 where
  pub number : ℕ
  pub blocks : ℕ
  pub length : ℕ

-- read out of what the call hands back
abbrev pub opened_in : Result Payload Refused → Opened
opened_in (Ok p) = record { number = 0; blocks = p.blocks; length = p.length }
opened_in (Err r) = record { number = refusal_number r.why; blocks = r.blocks; length = 0 }

-- the parts of a reply
abbrev pub vector_of : List ℕ → List ℕ
vector_of p = filled 12 p 0

abbrev pub tag_in : List ℕ → List ℕ
tag_in p = filled 16 p 12

abbrev pub encrypted : List ℕ → List ℕ
encrypted p = drop 28 p

-- before the tag: the lengths, the vector and the room
unfoldable pub reply_outer : List ℕ → ℕ → List ℕ → ℕ → ℕ
reply_outer key n p room = refusal
    (28 when not (eqb (length key) 16)
    ∷ 1 when ltb (length p) 32
    ∷ 2 when ltb 16416 (length p)
    ∷ 5 when not (same (part p 0 12) (reply_vector n))
    ∷ 7 when ltb room (length p - 32)
    ∷ [])

unfoldable pub reply_tagged : (List ℕ → List ℕ) → List ℕ → ℕ
reply_tagged ciph p = refusal (8 when not (right_tag ciph [] (vector_of p) (tag_in p) (encrypted p)) ∷ [])

unfoldable pub reply_text : (List ℕ → List ℕ) → List ℕ → Out
reply_text ciph p = text_of ciph (vector_of p) (encrypted p)

-- the fields of the text t of a reply of m payload bytes
unfoldable pub reply_inner : ℕ → ℕ → List ℕ → ℕ
reply_inner n m t = refusal
    (11 when not (eqb (number_at t 2 2) m)
    ∷ 12 when not (eqb (number_at t 0 2) n)
    ∷ [])

unfoldable pub open_refusal : List ℕ → ℕ → List ℕ → ℕ → ℕ
open_refusal key n p room =
    reply_outer key n p room then reply_tagged (cipher key) p then reply_inner n (length p - 32) (reply_text (cipher key) p).bytes

-- what is enciphered: after the outer checks the tag's blocks; where the tag is right, the text's
unfoldable pub open_blocks : List ℕ → ℕ → List ℕ → ℕ → List Enciphered
open_blocks key n p room =
    past (reply_outer key n p room)
    (under_key key (zeros ∷ (tag_of (cipher key) (subkey (cipher key)) (vector_of p) [] (encrypted p)).enciphered)
    ++ past (reply_tagged (cipher key) p) (under_key key (reply_text (cipher key) p).enciphered))

-- an opened reply's answer carries its payload length; "a refusal gives 0 for these"
unfoldable pub opened : List ℕ → ℕ → List ℕ → List ℕ → Opened
opened key n p room = record {
  number = open_refusal key n p (length room);
  blocks = length (open_blocks key n p (length room));
  length = pick (is_zero (open_refusal key n p (length room))) (length p - 32) 0;
}

-- the lent room after the call
unfoldable pub open_room : List ℕ → ℕ → List ℕ → List ℕ → List ℕ
open_room key n p room = written (open_refusal key n p (length room)) (drop 4 (reply_text (cipher key) p).bytes) room
