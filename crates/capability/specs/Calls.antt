-- Document 01: issuing and narrowing, each as its table of refusals in the document's order, the blocks it enciphers and the bytes it writes.
use Rattle.std.specs.Prelude.{ℕ, not, List, [], ◌∷◌, ltb, eqb, length}
use Rattle.octets.specs.Checks.{pick, is_zero, ◌when◌, refusal}
use Rattle.octets.specs.Room.{placed}
use Rattle.capability.specs.Enciphered.{Enciphered}
use Rattle.capability.specs.Chain.{all_ones, id_block, word_block, first_secret, step}
use Rattle.capability.specs.Bytes.{id_of, four_at, secret_of, capability, narrowed, open?}
use Rattle.refusal.specs.Answer.{Answer}

-- "Issue: 28, 15 (ID 0), 7."
unfoldable pub issue_refusal : List ℕ → ℕ → List ℕ → ℕ
issue_refusal master id room = refusal
    (28 when not (eqb (length master) 16)
    ∷ 15 when eqb id 0
    ∷ 7 when ltb (length room) 50
    ∷ [])

-- "Issuing gives four all-ones words and the first secret."
unfoldable pub issued : List ℕ → ℕ → List ℕ
issued master id = capability id (all_ones ∷ all_ones ∷ all_ones ∷ all_ones ∷ []) (first_secret master id)

unfoldable pub issue_blocks : List ℕ → ℕ → List Enciphered
issue_blocks master id = record { key = master; block = id_block id } ∷ []

-- "Narrow: 28, 32, 31, 7."
unfoldable pub narrow_refusal : List ℕ → ℕ → List ℕ → ℕ
narrow_refusal c w room = refusal
    (28 when not (eqb (length c) 50)
    ∷ 32 when eqb w all_ones
    ∷ 31 when not (open? (four_at c 2))
    ∷ 7 when ltb (length room) 50
    ∷ [])

-- "Narrowing puts a word in the first all-ones place and moves the secret one step, without the master secret."
unfoldable pub narrowing : List ℕ → ℕ → List ℕ
narrowing c w = capability (id_of c) (narrowed w (four_at c 2)) (step (secret_of c) w)

unfoldable pub narrow_blocks : List ℕ → ℕ → List Enciphered
narrow_blocks c w = record { key = secret_of c; block = word_block w } ∷ []

-- what a call answers and leaves in the room, of its number, its blocks if accepted, and its bytes
abbrev pub answer : ℕ → List Enciphered → Answer
answer n bs = record { number = n; blocks = pick (is_zero n) (length bs) 0 }

abbrev pub written : ℕ → List ℕ → List ℕ → List ℕ
written n x room = pick (is_zero n) (placed room 0 x) room
