-- "which number a refusal gives, as the first fact of the order that fails", of every server call: so a call is accepted exactly when its facts hold.
use mathlib.Core.Path.{◌≡◌, refl, ap, subst}
use mathlib.Core.Bool.{true, false, true≢false, false≢true}
use mathlib.Core.List.{List, []}
use Prim.Native.Nat.{ℕ, zero, suc, ◌+◌}
use borrow.Author.Tests.{not-false, eqb-true, eq-eqb, ltb-false, le-ltb}
use lib.ListN.{length}
use Rattle.octets.specs.Checks.{is_zero}
use Rattle.octets.specs.Little.{number}
use Rattle.octets.proofs.RangeLaws.{between-both, both-between}
use Rattle.octets.proofs.SameLaws.{same_true, same_refl}
use Rattle.state.specs.declared.State.{State}
use Rattle.state.specs.declared.transitions.Phase.{Phase}
use Rattle.state.specs.declared.transitions.Phase.TheVariants.{Idle, Waiting, Open}
use Rattle.state.proofs.SoundLaws.{sound-facts, of-sound}
use Rattle.view.specs.Phases.{is_waiting, owes}
use Rattle.view.specs.View.{see}
use Rattle.view.proofs.CountedLaws.{such, place-there}
use Rattle.view.proofs.ViewLaws.{entries-there}
use Rattle.gateway.specs.Close.{closing, close_refusal}
use Rattle.gateway.specs.Revoke.{revoking, revoke_refusal}
use Rattle.gateway.specs.Request.{found, asked, form_refusal, request_refusal, requesting}
use Rattle.gateway.specs.Proof.{proof_refusal, proving}
use Rattle.gateway.specs.Reply.{reply_refusal, replying}
use Rattle.promises.specs.CallFacts.{Known, call_facts}
use Rattle.promises.specs.Rules.{Hold, Gives, slice}
use Rattle.promises.specs.Step.{Call, request, proof, command, reply, close, revoke, answer}
use Rattle.promises.specs.Typed.{Typed}
use Rattle.promises.proofs.Facts.{command-number}
use Rattle.promises.proofs.Found.{found-names, found-none}
use Rattle.promises.proofs.RuleLaws.{counted, row, stages, zero-hold, hold-zero}
use Rattle.promises.proofs.TestLaws.{named-such, open-phase}

abbrev pub CallNumber : Type 0
CallNumber = (s : State) (c : Call) → Typed s → Gives (call_facts s c) (answer s c).number

abbrev pub AcceptedExactly : Type 0
AcceptedExactly = (s : State) (c : Call) → Typed s → ((answer s c).number ≡ 0 → Hold (call_facts s c)) × (Hold (call_facts s c) → (answer s c).number ≡ 0)

-- ---- tests of phases

waiting-phase : (p : Phase) → is_waiting p ≡ true → p ≡ Waiting
waiting-phase Idle e = absurd (false≢true e)
waiting-phase Waiting e = refl
waiting-phase (Open last owed) e = absurd (false≢true e)

owing-phase : (p : Phase) (n : ℕ) → owes p n ≡ true → p ≡ Open n true
owing-phase Idle n e = absurd (false≢true e)
owing-phase Waiting n e = absurd (false≢true e)
owing-phase (Open last true) n e = ap (λ (k : ℕ). Open k true) (eqb-true last n e)
owing-phase (Open last false) n e = absurd (false≢true e)

-- ---- a name

pub known-found : (s : State) (name : List ℕ) → Known s name → is_zero (found s.rights s.names name) ≡ false
known-found s name k = by (found s.rights s.names name) refl where
  by : (n : ℕ) → found s.rights s.names name ≡ n → is_zero n ≡ false
  by zero e = absurd (found-none s.rights s.names name e k.place k.low k.named)
  by (suc n) e = refl

found-known : (s : State) (name : List ℕ) → is_zero (found s.rights s.names name) ≡ false → Known s name
found-known s name = by (found s.rights s.names name) refl where
  by : (n : ℕ) → found s.rights s.names name ≡ n → is_zero n ≡ false → Known s name
  by zero e q = absurd (true≢false q)
  by (suc n) e q = let h = found-names s.rights s.names name n e in record { place = n; low = h.0; named = h.1 }

-- ---- each call

module _ (s : State) where
  request-gives : (p f room : List ℕ) → Gives (call_facts s (request p f room)) (answer s (request p f room)).number
  unfolding answer requesting request_refusal form_refusal number
  request-gives p f room =
      let facts = call_facts s (request p f room) in
      stages (slice 0 5 facts) (slice 5 2 facts) _ _ refl
      (row (slice 1 4 facts) 39 _ _ (λ h. rw (of-sound s.rights h)) λ t39. (
        sound-facts s.rights (not-false _ t39),
        row (slice 2 3 facts) 28 _ _ (λ h. rw (eq-eqb _ 16 h)) λ t28. (
          eqb-true _ 16 (not-false _ t28),
          row (slice 3 2 facts) 20 _ _ (λ h. rw (both-between 21 276 (length p) h)) λ t20. (
            between-both 21 276 (length p) (not-false _ t20),
            row (slice 4 1 facts) 21 _ _ (λ h. rw (eq-eqb _ 1 h)) λ t21. (
              eqb-true _ 1 (not-false _ t21),
              row [] 22 _ _ (λ h. rw (eq-eqb _ _ h)) λ t22. (eqb-true _ _ (not-false _ t22), refl),
            ),
          ),
        ),
      ))
      (λ h. row (slice 6 1 facts) 23 _ _ (known-found s (asked p)) λ t23. (
        found-known s (asked p) t23,
        row [] 7 _ _ (λ q. le-ltb (length room) 32 q) λ t7. (ltb-false (length room) 32 t7, refl),
      ))

  proof-gives : (h : ℕ) (p room : List ℕ) → Gives (call_facts s (proof h p room)) (answer s (proof h p room)).number
  unfolding answer proving proof_refusal see
  proof-gives h p room =
      let facts = call_facts s (proof h p room) in
      row (slice 1 5 facts) 39 _ _ (λ q. rw (of-sound s.rights q)) λ t39. (
        sound-facts s.rights (not-false _ t39),
        row (slice 2 4 facts) 4 _ _ (λ q. named-such _ _ q) λ t4. (
          such h s.rights.hosts t4,
          row (slice 3 3 facts) 25 _ _ (λ q. rw (eq-eqb _ 32 q)) λ t25. (
            eqb-true _ 32 (not-false _ t25),
            rw (place-there h s.rights.hosts 32 t4) (
                row (slice 4 2 facts) 26 _ _ (λ q. rw q) λ t26. (
                  waiting-phase _ (not-false _ t26),
                  row (slice 5 1 facts) 27 _ _ (λ q. rw (q, same_refl)) λ t27. (
                    same_true _ _ (not-false _ t27),
                    row [] 7 _ _ (λ q. le-ltb (length room) 20 q) λ t7. (ltb-false (length room) 20 t7, refl),
                  ),
                )),
          ),
        ),
      )

  reply-gives : (h n : ℕ) (pay room : List ℕ) → Gives (call_facts s (reply h n pay room)) (answer s (reply h n pay room)).number
  unfolding answer replying reply_refusal see
  reply-gives h n pay room =
      let facts = call_facts s (reply h n pay room) in
      row (slice 1 5 facts) 39 _ _ (λ q. rw (of-sound s.rights q)) λ t39. (
        sound-facts s.rights (not-false _ t39),
        row (slice 2 4 facts) 4 _ _ (λ q. named-such _ _ q) λ t4. (
          such h s.rights.hosts t4,
          rw (place-there h s.rights.hosts 32 t4) (
              row (slice 3 3 facts) 6 _ _ (λ q. rw q.phase) λ t6. (
                (let o = open-phase _ (not-false _ t6) in record { last = o.0; owed = o.1; phase = o.2; holds = tt }),
                row (slice 4 2 facts) 29 _ _ (λ q. rw (q, eq-eqb n n refl)) λ t29. (
                  owing-phase _ n (not-false _ t29),
                  row (slice 5 1 facts) 30 _ _ (λ q. le-ltb 16384 (length pay) q) λ t30. (
                    ltb-false 16384 (length pay) t30,
                    row [] 7 _ _ (λ q. le-ltb (length room) (32 + length pay) q) λ t7. (ltb-false (length room) (32 + length pay) t7, refl),
                  ),
                ),
              )),
        ),
      )

  close-gives : (h : ℕ) → Gives (call_facts s (close h)) (answer s (close h)).number
  unfolding answer closing close_refusal see
  close-gives h =
      row (slice 1 1 (call_facts s (close h))) 39 _ _ (λ q. rw (of-sound s.rights q)) λ t39. (
        sound-facts s.rights (not-false _ t39),
        row [] 4 _ _ (λ q. named-such _ _ q) λ t4. (such h s.rights.hosts t4, refl),
      )

  revoke-gives : (i e w : ℕ) → Gives (call_facts s (revoke i e w)) (answer s (revoke i e w)).number
  unfolding answer revoking revoke_refusal
  revoke-gives i e w =
      let facts = call_facts s (revoke i e w) in
      row (slice 1 2 facts) 39 _ _ (λ q. rw (of-sound s.rights q)) λ t39. (
        sound-facts s.rights (not-false _ t39),
        row (slice 2 1 facts) 14 _ _ (λ q. named-such _ _ q) λ t14. (
          such i s.rights.interfaces t14,
          rw (entries-there s.rights i e t14) (row [] 15 _ _ (λ q. named-such _ _ q) λ t15. (such e _ t15, refl)),
        ),
      )

-- ---- the promises

pub call-number : CallNumber
call-number s (request p f room) typed = request-gives s p f room
call-number s (proof h p room) typed = proof-gives s h p room
call-number s (command p room) typed = command-number s p room typed
call-number s (reply h n pay room) typed = reply-gives s h n pay room
call-number s (close h) typed = close-gives s h
call-number s (revoke i e w) typed = revoke-gives s i e w

counted-calls : (s : State) (c : Call) → counted (call_facts s c) ≡ true
counted-calls s (request p f room) = refl
counted-calls s (proof h p room) = refl
counted-calls s (command p room) = refl
counted-calls s (reply h n pay room) = refl
counted-calls s (close h) = refl
counted-calls s (revoke i e w) = refl

pub accepted-exactly : AcceptedExactly
accepted-exactly s c typed = (
  (λ e. zero-hold (call_facts s c) (counted-calls s c) (subst (Gives (call_facts s c)) e (call-number s c typed))),
  (λ h. hold-zero (call_facts s c) _ h (call-number s c typed)),
)
