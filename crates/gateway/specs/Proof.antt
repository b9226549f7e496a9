-- Document 01: proof. "Proof: 39, 4, 25, 26, 27, 7." "Proof: host number from the channel, and 32 bytes: challenge 2, challenge 3. Written: client
-- ID (2), two zeros, challenge 3 (20 bytes). The record becomes open with last number 0 and no reply owed. Key: the AES-128 encryption of
-- block challenge 3 under key challenge 2."
use Rattle.std.specs.Prelude.{ℕ, not, List, [], ◌∷◌, ◌++◌, eqb, ltb, length}
use Rattle.octets.specs.Checks.{◌when◌, refusal}
use Rattle.octets.specs.Room.{part}
use Rattle.octets.specs.Same.{same}
use Rattle.aes.specs.Cipher.{cipher}
use Rattle.capability.specs.Calls.{answer, written}
use Rattle.capability.specs.Enciphered.{Enciphered}
use Rattle.state.specs.declared.Rights.{Rights}
use Rattle.state.specs.declared.Records.{Records}
use Rattle.state.specs.Records.{proved}
use Rattle.view.specs.Counted.{no_such}
use Rattle.view.specs.Phases.{is_waiting}
use Rattle.view.specs.View.{see}
use Rattle.view.specs.declared.View.{View}
use Rattle.fields.specs.Command.{open_lead}
use Rattle.gateway.specs.Common.{moved, Changed}

-- the two challenges of a proof
abbrev pub second : List ℕ → List ℕ
second p = part p 0 16

abbrev pub third : List ℕ → List ℕ
third p = part p 16 16

unfoldable pub proof_refusal : View → ℕ → List ℕ → ℕ → ℕ
proof_refusal v h p room = refusal
    (39 when not v.good
    ∷ 4 when no_such h v.hosts
    ∷ 25 when not (eqb (length p) 32)
    ∷ 26 when not (is_waiting v.held.phase)
    ∷ 27 when not (same (second p) v.held.challenge)
    ∷ 7 when ltb room 20
    ∷ [])

-- the block that makes the key
abbrev pub key_blocks : List ℕ → List Enciphered
key_blocks p = record { key = second p; block = third p } ∷ []

-- the answer, and the records after the call
unfoldable pub proving : Rights → Records → ℕ → List ℕ → ℕ → Changed
proving r s h p room = record {
  answer = answer (proof_refusal (see r s h) h p room) (key_blocks p);
  records = moved (proof_refusal (see r s h) h p room) s h (proved (cipher (second p) (third p)));
}

-- the lent room after the call
unfoldable pub proof_room : Rights → Records → ℕ → List ℕ → List ℕ → List ℕ
proof_room r s h p room = written (proof_refusal (see r s h) h p (length room)) (open_lead h ++ third p) room
