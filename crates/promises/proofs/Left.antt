-- "Each call leaves the record, bytes and block count that document 01 sets": the records and the words after an accepted call.
use mathlib.Core.Path.{◌≡◌, refl, sym, ap, ◌∙◌}
use mathlib.Core.Logic.{◌≢◌}
use mathlib.Core.Bool.{true, false, false≢true, true≢false}
use mathlib.Core.List.{List}
use Prim.Native.Nat.{ℕ, ◌-◌}
use native.Mathlib.Omega.{arith}
use borrow.Author.Tests.{eqb-true}
use lib.Bits.{bit_and}
use lib.ListN.{length}
use Rattle.octets.proofs.SameLaws.{same_true}
use Rattle.state.specs.declared.State.{State}
use Rattle.state.specs.declared.Rights.{Rights}
use Rattle.state.specs.declared.transitions.Phase.{Phase}
use Rattle.state.specs.declared.transitions.Phase.TheVariants.{Idle, Waiting, Open}
use Rattle.state.specs.Records.{replied}
use Rattle.state.specs.Flat.{with_words}
use Rattle.state.proofs.SoundLaws.{sound-facts, word-ind, word_same, word-other}
use Rattle.view.specs.declared.View.{View}
use Rattle.view.specs.Phases.{is_waiting, owes}
use Rattle.view.specs.Right.{right_of}
use Rattle.view.specs.View.{see}
use Rattle.view.proofs.ViewLaws.{held-there}
use Rattle.gateway.specs.Close.{closing}
use Rattle.gateway.specs.Proof.{second, proving}
use Rattle.gateway.specs.Reply.{replying}
use Rattle.gateway.specs.Request.{asked}
use Rattle.gateway.specs.Revoke.{revoking}
use Rattle.gateway.proofs.CloseLaws.{ClosePassed, close_passed}
use Rattle.gateway.proofs.ProofLaws.{ProofPassed, proof-passed}
use Rattle.gateway.proofs.ReplyLaws.{Replies, replies}
use Rattle.gateway.proofs.RevokeLaws.{revoke-passed}
use Rattle.promises.specs.Left.{AboutHost, leaves, Leaves, Revokes}
use Rattle.promises.specs.Places.{record_at}
use Rattle.promises.specs.Stands.{Names}
use Rattle.promises.specs.Step.{Call, request, proof, command, reply, close, revoke, answer, with_records, next}
use Rattle.promises.specs.Subject.{subject}
use Rattle.promises.specs.Typed.{Typed}
use Rattle.promises.proofs.Found.{found-low, request-sound}
use Rattle.promises.proofs.CallFacts.{known-found, accepted-exactly}
use Rattle.promises.proofs.Own.{others-kept, own-stored}
use Rattle.promises.proofs.Sound.{revocable}
use Rattle.promises.proofs.Stands.{accepted-says}
use Rattle.promises.proofs.TestLaws.{named-such}

abbrev pub AcceptedLeaves : Type 0
AcceptedLeaves = (s : State) (c : Call) → Typed s → (answer s c).number ≡ 0 → AboutHost c → Leaves s c

abbrev pub RevocationLeaves : Type 0
RevocationLeaves = (s : State) (i e w : ℕ) → Typed s → (answer s (revoke i e w)).number ≡ 0 → Revokes s i e w

-- ---- phases

owed-phase : (p : Phase) (n : ℕ) → owes p n ≡ true → p ≡ Open n true
owed-phase Idle n e = absurd (false≢true e)
owed-phase Waiting n e = absurd (false≢true e)
owed-phase (Open last false) n e = absurd (false≢true e)
owed-phase (Open last true) n e = rw (eqb-true last n e)

waiting-phase : (p : Phase) → is_waiting p ≡ true → p ≡ Waiting
waiting-phase Idle e = absurd (false≢true e)
waiting-phase Waiting e = refl
waiting-phase (Open last owed) e = absurd (false≢true e)

-- ---- what an accepted call says of its host

module _ (s : State) (h : ℕ) where
  abbrev seen : View
  seen = see s.rights s.records h

  -- a host of a sound state is one of 32
  seen_low : seen.good ≡ true → Names h seen.hosts → Names h 32
  unfolding see
  seen_low g n = let facts = sound-facts s.rights g in (omega arith, omega arith)

  -- what a call sees of a host that is there is its record
  seen-held : Names h seen.hosts → seen.held ≡ record_at s h
  unfolding see
  seen-held n = held-there s.rights s.records h (named-such h s.rights.hosts n)

  -- what an accepted close, proof and reply passed
  closes : (answer s (close h)).number ≡ 0 → ClosePassed seen h
  unfolding answer closing
  closes e = close_passed _ h e

  proves : (p room : List ℕ) → (answer s (proof h p room)).number ≡ 0 → ProofPassed seen h p (length room)
  unfolding answer proving
  proves p room e = proof-passed _ h p _ e

  -- it waits, with the challenge that the proof gives back
  pub proof-waiting : (p room : List ℕ) → (answer s (proof h p room)).number ≡ 0
      → ((record_at s h).phase ≡ Waiting) × (second p ≡ (record_at s h).challenge)
  proof-waiting p room e =
      let known = proves p room e in
      let held = seen-held known.host in
      (rw held at (waiting-phase seen.held.phase known.waiting), rw held at (same_true (second p) seen.held.challenge known.read))

  answers : (n : ℕ) (pay room : List ℕ) → (answer s (reply h n pay room)).number ≡ 0 → Replies seen h n (length pay) (length room)
  unfolding answer replying
  answers n pay room e = replies _ h n _ _ e

  -- "One reply for the last accepted command, once": its connection is open, that number is the last one, and a reply is owed for it
  pub reply-owed : (n : ℕ) (pay room : List ℕ) → (answer s (reply h n pay room)).number ≡ 0 → (record_at s h).phase ≡ Open n true
  reply-owed n pay room e =
      let known = answers n pay room e in
      rw (seen-held known.host) at (owed-phase seen.held.phase n known.owed)

-- ---- the record of that host

-- the host that an accepted request names is one of 32
request-low : (s : State) (p f room : List ℕ) → (answer s (request p f room)).number ≡ 0 → subject s (request p f room) ≢ 0
    → Names (subject s (request p f room)) 32
request-low s p f room e d =
    let facts = sound-facts s.rights (request-sound s p f room e) in
    let low = found-low s.rights s.names (asked p) in
    (omega arith, omega arith)

-- an accepted call about a host leaves it in the record that document 01 sets
own : (s : State) (c : Call) → Typed s → (answer s c).number ≡ 0 → subject s c ≢ 0
    → record_at (next s c) (subject s c) ≡ leaves s c (record_at s (subject s c))
own s (request p f room) typed e d = own-stored s (request p f room) typed.records e (request-low s p f room e d)
own s (proof h p room) typed e d =
    let known = proves s h p room e in
    own-stored s (proof h p room) typed.records e (seen_low s h known.good known.host)
own s (command p room) typed e d = (accepted-says s p room typed e).client
own s (reply h n pay room) typed e d =
    let known = answers s h n pay room e in
    own-stored s (reply h n pay room) typed.records e (seen_low s h known.good known.host)
    ∙ ap replied (seen-held s h known.host)
    ∙ rw (reply-owed s h n pay room e)
own s (close h) typed e d =
    let known = closes s h e in
    own-stored s (close h) typed.records e (seen_low s h known.good known.host)
own s (revoke i j w) typed e d = absurd (d refl)

-- ---- all else

-- a call about a host changes records alone
records-alone : (s : State) (c : Call) → subject s c ≢ 0 → next s c ≡ with_records s (next s c).records
unfolding next
records-alone s (request p f room) d = refl
records-alone s (proof h p room) d = refl
records-alone s (command p room) d = refl
records-alone s (reply h n pay room) d = refl
records-alone s (close h) d = refl
records-alone s (revoke i e w) d = absurd (d refl)

-- ---- the promises

-- an accepted call about a host has one: 4 and 23 refuse the others
has-host : (s : State) (c : Call) → Typed s → (answer s c).number ≡ 0 → AboutHost c → subject s c ≢ 0
has-host s (request p f room) typed e a z =
    let known = ((accepted-exactly s (request p f room) typed).0 e).1.1.1.1.1.0 in
    true≢false (rw z at (known-found s (asked p) known))
has-host s (proof h p room) typed e a z = omega (arith, ((accepted-exactly s (proof h p room) typed).0 e).1.0)
has-host s (command p room) typed e a z = omega (arith, ((accepted-exactly s (command p room) typed).0 e).1.1.1.1.0)
has-host s (reply h n pay room) typed e a z = omega (arith, ((accepted-exactly s (reply h n pay room) typed).0 e).1.0)
has-host s (close h) typed e a z = omega (arith, ((accepted-exactly s (close h) typed).0 e).1.0)
has-host s (revoke i j w) typed e a z = absurd a

pub accepted-leaves : AcceptedLeaves
accepted-leaves s c typed e a =
    let d = has-host s c typed e a in
    let alone = records-alone s c d in record {
      own = own s c typed e d;
      others = λ h l k. others-kept s c h l k typed.records;
      rights = ap (λ (t : State). t.rights) alone;
      names = ap (λ (t : State). t.names) alone;
      labels = ap (λ (t : State). t.labels) alone;
    }

pub revocation-leaves : RevocationLeaves
unfolding answer next revoking
revocation-leaves s i e w typed z =
    let r : Rights = s.rights in
    let known = revocable r i e z in
    let facts = sound-facts r (revoke-passed r i e z).good in
    let entries = (facts.interface (i - 1) (omega arith)).entries in
    let new : ℕ = bit_and (right_of r i e).word w in record {
      word = rw z (word_same r (i - 1) (e - 1) new (omega arith) (omega arith) typed.words ∙ rw (known.word r.words));
      others = λ k d. rw z (word-other r (i - 1) (e - 1) new k (λ q. d (sym q)));
      rights = rw z (word-ind r (i - 1) (e - 1) new (λ t. with_words t r.words ≡ r) (λ a b. refl) refl);
      records = refl;
      names = refl;
      labels = refl;
    }
