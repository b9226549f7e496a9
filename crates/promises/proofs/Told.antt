-- Output consistency: in two states that look alike to a machine, its call is answered the same and leaves its record the same, and a revocation on a
-- chosen interface is answered the same. A command that doesn't open, or that names no interface or no entry, is refused with no regard to the right
-- that it would see.
use mathlib.Core.Path.{◌≡◌, refl, sym, ap, ◌∙◌}
use mathlib.Core.Logic.{◌≢◌, ◌⊎◌, inl, inr}
use mathlib.Core.Bool.{Bool, true, false}
use mathlib.Core.List.{List}
use Prim.Native.Nat.{ℕ, zero, suc, ◌-◌}
use native.Mathlib.Omega.{arith}
use borrow.Author.Tests.{eqb-true, eqb-false}
use lib.Dec.{eqb}
use lib.ListN.{length}
use Rattle.octets.specs.Checks.{◌then◌}
use Rattle.octets.proofs.CheckLaws.{passed-of, then_some}
use Rattle.state.specs.declared.State.{State}
use Rattle.state.specs.declared.Rights.{Rights}
use Rattle.state.specs.declared.Records.{Records}
use Rattle.state.specs.Flat.{record_of}
use Rattle.state.proofs.SoundLaws.{sound-facts}
use Rattle.view.specs.View.{see}
use Rattle.view.specs.declared.View.{View}
use Rattle.view.proofs.CountedLaws.{such}
use Rattle.fields.specs.declared.Order.{Order}
use Rattle.fields.specs.Command.{client_of, order_of}
use Rattle.command.specs.Command.{ciph_of, order, named, inner_rows, inner, rightful, genuine, judged, weighed, opening, command_refusal}
use Rattle.command.specs.Blocks.{command_blocks}
use Rattle.command.specs.Heard.{heard, heard_room}
use Rattle.gateway.specs.Request.{asked, form_refusal, request_refusal, requesting, request_room}
use Rattle.gateway.specs.Proof.{proving, proof_room}
use Rattle.gateway.specs.Command.{command_heard, command_room}
use Rattle.gateway.specs.Reply.{replying, reply_room}
use Rattle.gateway.specs.Close.{closing}
use Rattle.gateway.specs.Revoke.{revoke_refusal, revoking}
use Rattle.promises.specs.Step.{Call, request, proof, command, reply, close, revoke, answer, next}
use Rattle.promises.specs.Stands.{Names}
use Rattle.promises.specs.Subject.{subject}
use Rattle.promises.proofs.Facts.{zero-opens, order-there}
use Rattle.promises.specs.Told.{Machine, mine, Named}
use Rattle.promises.specs.Alike.{Alike}
use Rattle.promises.proofs.Hosts.{found-same, subject-same}
use Rattle.promises.proofs.Contents.{SameRight, no_such_lem, right-same}
use Rattle.promises.proofs.Alike.{see-same}
use Rattle.promises.proofs.Blocks.{command-count}
use Rattle.promises.proofs.Own.{others-kept, becomes, own-stored}
use Rattle.promises.proofs.Refused.{refusal-keeps}

-- ---- a command, with the rights r or q, that sees the same right in both, or names no interface, or no entry

module _ (r q : Rights) (s : Records) (p : List ℕ) where
  abbrev v : View
  v = see r s (client_of p)

  abbrev o : Order
  o = order (ciph_of v) p

  abbrev Same : Type 0
  Same = SameRight r q o.interface o.capability

  -- 14 at the latest
  inner-refuses : ¬ Names o.interface r.interfaces → inner v (client_of p) (length p - 96) o ≢ 0
  unfolding inner see
  inner-refuses n e = n (such _ _ (passed-of (inner_rows v (client_of p) (length p - 96) o) refl e).1.1.1.1.1.0)

  weighed-same : Same → weighed v r p o ≡ weighed v q p o
  unfolding weighed judged rightful
  weighed-same (inl e) = rw e
  weighed-same (inr (inl n)) =
      let i : ℕ = inner v (client_of p) (length p - 96) o in
      let d : i ≢ 0 = inner-refuses n in
      rw (
        then_some i (rightful (named r o) o) d,
        then_some i (rightful (named q o) o) d,
        then_some i (genuine (named r o) o) d,
        then_some i (genuine (named q o) o) d,
      )
  weighed-same (inr (inr n)) = rw (n.0, n.1) (stops (inner v (client_of p) (length p - 96) o) _ _) where
    stops : (i x y : ℕ) → ((i then 15) then x) ≡ ((i then 15) then y)
    stops zero x y = refl
    stops (suc i) x y = refl

  refusal-same : (room : ℕ) → (opening v p room ≡ 0 → Same) → command_refusal v r p room ≡ command_refusal v q p room
  unfolding command_refusal
  refusal-same room f = by-opening (opening v p room) refl where
    by-opening : (n : ℕ) → opening v p room ≡ n → (n then weighed v r p o) ≡ (n then weighed v q p o)
    by-opening zero e = weighed-same (f e)
    by-opening (suc n) e = refl

  -- the count is the one that the table gives for the number
  heard-same : (room : List ℕ) → (opening v p (length room) ≡ 0 → Same)
      → (heard v r p room ≡ heard v q p room) × (heard_room v r p room ≡ heard_room v q p room)
  unfolding heard heard_room
  heard-same room f =
      let number = refusal-same (length room) f in
      let blocks : length (command_blocks v r p (length room)) ≡ length (command_blocks v q p (length room)) =
      command-count v r p room ∙ sym (rw (← number) at (command-count v q p room)) in
      (rw (number, blocks), rw number)

-- ---- each call

module _ {A : Machine} {chosen : ℕ → Bool} {s t : State} (h : Alike A chosen s t) where
  right-named : (i e : ℕ) → (chosen i ≡ true) ⊎ (¬ Names i s.rights.interfaces) → SameRight s.rights t.rights i e
  right-named i e (inl k) = right-same s.rights t.rights i e h.interfaces (h.contents i k)
  right-named i e (inr k) = inr (inl k)

  command-same : (p room : List ℕ) → client_of p ≡ A.number → Named A chosen s (command p room)
      → answer s (command p room) ≡ answer t (command p room)
  unfolding answer command_heard command_room order_of
  command-same p room e n =
      let same = heard-same s.rights t.rights s.records p room (λ z.
      let opens = zero-opens s p (length room) z in
      rw (order-there s p (length room) opens) (right-named _ _ (n e opens))) in
      rw (← see-same h (client_of p) e, same.0, same.1)

  revoke-same : (i e : ℕ) → SameRight s.rights t.rights i e → revoke_refusal s.rights i e ≡ revoke_refusal t.rights i e
  unfolding revoke_refusal
  revoke-same i e (inl k) = rw (k, h.first.sound, h.second.sound, h.interfaces)
  revoke-same i e (inr (inl n)) =
      let none = no_such_lem i _ n in
      rw (h.first.sound, h.second.sound, none, rw h.interfaces at none)
  revoke-same i e (inr (inr n)) = rw (n.0, n.1, h.first.sound, h.second.sound, h.interfaces)

  pub answer-same : (c : Call) → mine A chosen c ≡ true → Named A chosen s c → answer s c ≡ answer t c
  unfolding answer requesting request_room request_refusal form_refusal proving proof_room replying reply_room closing revoking
  answer-same (request p f room) m n = rw (h.first.sound, h.second.sound, found-same h.hosts (asked p))
  answer-same (proof k p room) m n = rw (see-same h k (eqb-true k _ m))
  answer-same (command p room) m n = command-same p room (eqb-true (client_of p) _ m) n
  answer-same (reply k j pay room) m n = rw (see-same h k (eqb-true k _ m))
  answer-same (close k) m n = rw (see-same h k (eqb-true k _ m))
  answer-same (revoke i e w) m n = rw (revoke-same i e (right-same s.rights t.rights i e h.interfaces (h.contents i m)))

  becomes-same : (c : Call) → answer s c ≡ answer t c → subject s c ≡ A.number → becomes s c ≡ becomes t c
  becomes-same (request p f room) a e = refl
  becomes-same (proof k p room) a e = refl
  becomes-same (command p room) a e = rw (see-same h (client_of p) e, a)
  becomes-same (reply k j pay room) a e = rw (see-same h k e)
  becomes-same (close k) a e = refl
  becomes-same (revoke i j w) a e = refl

  -- A's record after a call that is answered the same
  pub held_same : (c : Call) → answer s c ≡ answer t c → record_of (next s c).records (A.number - 1) ≡ record_of (next t c).records (A.number - 1)
  held_same c a = by-subject (eqb (subject s c) A.number) refl where
    same-subject : subject s c ≡ subject t c
    same-subject = subject-same h.hosts c

    by_number : (n : ℕ) → (answer s c).number ≡ n → subject s c ≡ A.number
        → record_of (next s c).records (A.number - 1) ≡ record_of (next t c).records (A.number - 1)
    by_number zero z e =
        let low = (sound-facts s.rights h.first.sound).hosts in
        let in-s = own-stored s c h.first.records z (omega arith, omega arith) in
        let in-t = own-stored t c h.second.records (rw a at z) (omega (arith, same-subject), omega (arith, same-subject)) in
        rw (← e) (in-s ∙ becomes-same c a e ∙ sym (rw (← same-subject) at in-t))
    by_number (suc n) z e =
        let in-s = (refusal-keeps s c (λ q. omega arith)).0 in
        let in-t = (refusal-keeps t c (λ q. omega (arith, ap (λ x. x.number) a))).0 in
        rw (in-s, in-t) h.held

    by-subject : (b : Bool) → eqb (subject s c) A.number ≡ b
        → record_of (next s c).records (A.number - 1) ≡ record_of (next t c).records (A.number - 1)
    by-subject true e = by_number (answer s c).number refl (eqb-true _ _ e)
    by-subject false e =
        let d : subject s c ≢ A.number = eqb-false _ _ e in
        others-kept s c A.number h.host.number.0 d h.first.records ∙ h.held
        ∙ sym (others-kept t c A.number h.host.number.0 (rw same-subject at d) h.second.records)
