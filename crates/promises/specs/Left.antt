-- "Each call leaves the record, bytes and block count that document 01 sets". The bytes are in proofs/Written and the blocks in `Counts`; here are the
-- records and the words.
use Rattle.std.specs.Prelude.{◌≡◌, ◌≢◌, false, List, ℕ, ◌≤◌, get_or, replicate}
use Rattle.std.specs.Int.Bits.{bit_and}
use Rattle.aes.specs.Cipher.{cipher}
use Rattle.state.specs.declared.State.{State}
use Rattle.state.specs.declared.transitions.Record.{Record}
use Rattle.state.specs.declared.transitions.Phase.TheVariants.{Idle, Waiting, Open}
use Rattle.state.specs.Flat.{with_words}
use Rattle.gateway.specs.Proof.{second, third}
use Rattle.promises.specs.Answered.{owing}
use Rattle.promises.specs.Facts.{text_in}
use Rattle.promises.specs.Places.{number_said, record_at, entry_at}
use Rattle.promises.specs.Step.{Call, request, proof, command, reply, close, revoke, next}
use Rattle.promises.specs.Subject.{subject}

abbrev zeros : List ℕ
zeros = replicate 16 0

-- a call about a host: any but a revocation
abbrev pub AboutHost : Call → Type 0
AboutHost (request p f room) = Unit
AboutHost (proof h p room) = Unit
AboutHost (command p room) = Unit
AboutHost (reply h n pay room) = Unit
AboutHost (close h) = Unit
AboutHost (revoke i e w) = ⊥

-- the record that an accepted call leaves its host, from the record r that it had
abbrev pub leaves : State → Call → Record → Record
-- "The host named .. becomes waiting", with the lent fresh bytes as challenge 2; "an earlier connection ends there"
leaves s (request p f room) r = record { phase = Waiting; challenge = f; key = zeros }
-- "The record becomes open with last number 0 and no reply owed. Key: the AES-128 encryption of block challenge 3 under key challenge 2."
leaves s (proof h p room) r = record { phase = Open 0 false; challenge = zeros; key = cipher (second p) (third p) }
-- its number is the last accepted one, and a reply is owed for it
leaves s (command p room) r = owing r (number_said (text_in s p))
-- "One reply for the last accepted command, once"
leaves s (reply h n pay room) r = record { phase = Open n false; challenge = r.challenge; key = r.key }
-- "Close makes a record idle from any state."
leaves s (close h) r = record { phase = Idle; challenge = zeros; key = zeros }
-- about no host
leaves s (revoke i e w) r = r

-- what an accepted call about a host leaves: that record, and all else as it was
pub record Leaves (s : State) (c : Call) : Type 0 where
  pub own : record_at (next s c) (subject s c) ≡ leaves s c (record_at s (subject s c))
  pub others : (h : ℕ) → 1 ≤ h → subject s c ≢ h → record_at (next s c) h ≡ record_at s h
  pub rights : (next s c).rights ≡ s.rights
  pub names : (next s c).names ≡ s.names
  pub labels : (next s c).labels ≡ s.labels

-- an accepted revocation: "Revocation replaces an entry's word by its AND with the given word", and all else is as it was
pub record Revokes (s : State) (i e w : ℕ) : Type 0 where
  pub word : get_or (next s (revoke i e w)).rights.words (entry_at i e) 0 ≡ bit_and (get_or s.rights.words (entry_at i e) 0) w
  pub others : (k : ℕ) → entry_at i e ≢ k → get_or (next s (revoke i e w)).rights.words k 0 ≡ get_or s.rights.words k 0
  pub rights : with_words (next s (revoke i e w)).rights s.rights.words ≡ s.rights
  pub records : (next s (revoke i e w)).records ≡ s.records
  pub names : (next s (revoke i e w)).names ≡ s.names
  pub labels : (next s (revoke i e w)).labels ≡ s.labels
