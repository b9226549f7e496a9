-- "A host's record is idle, waiting (16-byte challenge 2) or open (key, last accepted number, whether a reply is owed)." "A number is fresh if
-- greater than the last accepted." Numbers are the connection's own: no call about another host, and no revocation, changes a host's record.
use mathlib.Core.Path.{◌≡◌, refl}
use mathlib.Core.Logic.{◌≢◌, ◌⊎◌, inl, inr}
use mathlib.Core.List.{List}
use Prim.Native.Nat.{ℕ, zero, suc, ◌-◌, ◌≤◌}
use native.Mathlib.Omega.{arith}
use lib.ListN.{length}
use Rattle.octets.specs.Checks.{pick, is_zero}
use Rattle.octets.proofs.CheckLaws.{then-passed}
use Rattle.aes.specs.Cipher.{cipher}
use Rattle.aes.proofs.CipherLaws.{cipher-length}
use Rattle.state.specs.declared.State.{State}
use Rattle.state.specs.declared.Rights.{Rights}
use Rattle.state.specs.declared.Records.{Records}
use Rattle.state.specs.declared.transitions.Record.{Record}
use Rattle.state.specs.Records.{last_of, closed, requested, proved, accepted, replied}
use Rattle.state.specs.Flat.{record_of, with_record, Sized, SizedRecord}
use Rattle.state.proofs.RecordLaws.{stored, others, sized-with_record}
use Rattle.view.specs.View.{see}
use Rattle.view.proofs.ViewLaws.{sized-held}
use Rattle.fields.specs.Command.{client_of}
use Rattle.gateway.specs.Close.{closing, close_refusal}
use Rattle.gateway.specs.Request.{found, asked, request_refusal, requesting}
use Rattle.gateway.specs.Proof.{second, third, proof_refusal, proving}
use Rattle.gateway.specs.Command.{command_heard, commanding}
use Rattle.gateway.specs.Reply.{reply_refusal, replying}
use Rattle.gateway.proofs.RequestLaws.{formed}
use Rattle.gateway.proofs.ProofLaws.{proof-passed}
use Rattle.gateway.proofs.CommandLaws.{heard-client}
use Rattle.gateway.proofs.ReplyLaws.{replies}
use Rattle.gateway.proofs.CloseLaws.{close_passed}
use Rattle.promises.specs.Step.{Call, request, proof, command, reply, close, revoke, answer, next}
use Rattle.promises.specs.Stands.{Names}
use Rattle.promises.specs.Subject.{subject}

abbrev pub OthersKept : Type 0
OthersKept =
    (s : State) (c : Call) (h : ℕ) → 1 ≤ h → subject s c ≢ h → Sized s.records
    → record_of (next s c).records (h - 1) ≡ record_of s.records (h - 1)

-- so too the last accepted number
abbrev pub NumberKept : Type 0
NumberKept =
    (s : State) (c : Call) (h : ℕ) → 1 ≤ h → subject s c ≢ h → Sized s.records
    → last_of (record_of (next s c).records (h - 1)).phase ≡ last_of (record_of s.records (h - 1)).phase

-- the arrays keep their lengths
abbrev pub SizedKept : Type 0
SizedKept = (s : State) (c : Call) → Sized s.records → Sized (next s c).records

-- ---- what a call stores

-- an accepted request is for a host that was found, with 16 fresh bytes
request-found : (r : Rights) (names p fresh : List ℕ) (room : ℕ) → request_refusal r names p fresh room ≡ 0
    → (length fresh ≡ 16) × (1 ≤ found r names (asked p))
unfolding request_refusal
request-found r names p fresh room e =
    let stages = then-passed _ _ e in
    ((formed r p fresh stages.0).0, one (found r names (asked p)) _ stages.1)
  where
    one : (h m : ℕ) → pick (is_zero h) 23 m ≡ 0 → 1 ≤ h
    one zero m q = absurd (omega arith)
    one (suc h) m q = omega arith

-- what an accepted call makes of the record of the host that it is about
abbrev pub becomes : State → Call → Record
becomes s (request p f room) = requested f
becomes s (proof h p room) = proved (cipher (second p) (third p))
becomes s (command p room) = accepted (see s.rights s.records (client_of p)).held (answer s (command p room)).order.sequence
becomes s (reply h n pay room) = replied (see s.rights s.records h).held
becomes s (close h) = closed
becomes s (revoke i e w) = closed

-- what holds of what is picked, by the number that decides
pub by_number : {A : Type 0} {a b : A} (P : A → Type 0) (n : ℕ) → (n ≡ 0 → P a) → (n ≢ 0 → P b) → P (pick (is_zero n) a b)
by_number P zero f g = f refl
by_number P (suc n) f g = g (λ e. omega arith)

-- a call that is about no host or is refused leaves the records as they were; any other stores a record of the host that it is about
module _ (s : State) (z : Sized s.records) (P : Records → Type 0) where
  pub records-ind : (c : Call) → ((subject s c ≡ 0) ⊎ ((answer s c).number ≢ 0) → P s.records)
      → (1 ≤ subject s c → SizedRecord (becomes s c) → P (with_record s.records (subject s c - 1) (becomes s c)))
      → P (next s c).records
  unfolding answer next requesting proving commanding command_heard replying closing
  records-ind (request p f room) as-were store =
      by_number P (request_refusal s.rights s.names p f (length room))
      (λ q. let known = request-found s.rights s.names p f (length room) q in store known.1 (record { challenge = known.0; key = refl }))
      (λ d. as-were (inr d))
  records-ind (proof h p room) as-were store =
      by_number P (proof_refusal (see s.rights s.records h) h p (length room))
      (λ q. store (proof-passed _ h p _ q).host.0 (record { challenge = refl; key = cipher-length _ _ }))
      (λ d. as-were (inr d))
  records-ind (command p room) as-were store =
      let held = sized-held s.rights s.records (client_of p) z in
      by_number P (command_heard s.rights s.records p room).number
      (λ q. store (heard-client _ s.rights p room q).0 (record { challenge = held.challenge; key = held.key }))
      (λ d. as-were (inr d))
  records-ind (reply h n pay room) as-were store =
      let held = sized-held s.rights s.records h z in
      by_number P (reply_refusal (see s.rights s.records h) h n (length pay) (length room))
      (λ q. store (replies _ h n _ _ q).host.0 (record { challenge = held.challenge; key = held.key }))
      (λ d. as-were (inr d))
  records-ind (close h) as-were store =
      by_number P (close_refusal (see s.rights s.records h) h)
      (λ q. store (close_passed _ h q).host.0 (record { challenge = refl; key = refl }))
      (λ d. as-were (inr d))
  records-ind (revoke i e w) as-were store = as-were (inl refl)

-- ---- the promises

pub sized-kept : SizedKept
sized-kept s c z = records-ind s z Sized c (λ k. z) (λ l y. sized-with_record s.records (subject s c - 1) (becomes s c) z y)

pub others-kept : OthersKept
others-kept s c h l d z =
    records-ind s z (λ t. record_of t (h - 1) ≡ record_of s.records (h - 1)) c (λ k. refl)
    (λ m y. others s.records (subject s c - 1) (becomes s c) (h - 1) (λ e. d (omega arith)) z y)

pub number-kept : NumberKept
number-kept s c h l d z = rw (others-kept s c h l d z)

-- an accepted call about host h leaves h in what it makes of its record
pub own-stored : (s : State) (c : Call) → Sized s.records → (answer s c).number ≡ 0 → Names (subject s c) 32
    → record_of (next s c).records (subject s c - 1) ≡ becomes s c
own-stored s c z e m =
    records-ind s z (λ t. record_of t (subject s c - 1) ≡ becomes s c) c never
    (λ l y. stored s.records (subject s c - 1) (becomes s c) (omega arith) z y)
  where
    never : (subject s c ≡ 0) ⊎ ((answer s c).number ≢ 0) → record_of s.records (subject s c - 1) ≡ becomes s c
    never (inl k) = absurd (omega arith)
    never (inr k) = absurd (k e)
