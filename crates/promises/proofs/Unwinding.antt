-- Local respect: a call that is neither about a machine nor a revocation on a chosen interface leaves a state that looks the same to it. Step
-- consistency: a call about it, or such a revocation, made in two states that look alike to it, leaves two that look alike.
use mathlib.Core.Path.{◌≡◌, refl, sym, ap, ◌∙◌}
use mathlib.Core.Logic.{◌≢◌}
use mathlib.Core.Bool.{Bool, true, false, true≢false}
use mathlib.Core.List.{List}
use Prim.Native.Nat.{ℕ, zero, suc, ◌+◌, ◌-◌}
use native.Mathlib.Omega.{arith}
use borrow.Author.Tests.{eqb-false}
use Rattle.octets.specs.Checks.{pick}
use Rattle.octets.specs.Same.{same}
use Rattle.octets.proofs.SameLaws.{same_true, same_false}
use Rattle.state.specs.declared.State.{State}
use Rattle.state.specs.declared.Rights.{Rights}
use Rattle.state.proofs.SoundLaws.{sound-facts}
use Rattle.view.specs.Right.{right_of}
use Rattle.gateway.specs.Request.{name_at, found_from, found, asked}
use Rattle.gateway.specs.Revoke.{revoke_refusal, revoking}
use Rattle.promises.specs.Step.{Call, request, proof, command, reply, close, revoke, answer, next}
use Rattle.promises.specs.Stands.{Names}
use Rattle.promises.specs.Subject.{subject}
use Rattle.promises.specs.Told.{Machine, mine, Named}
use Rattle.promises.specs.Alike.{SoundTyped, IsHost, SameInterface, Alike}
use Rattle.promises.proofs.Hosts.{hosts-kept, interfaces-kept, hosts-sym, hosts-trans}
use Rattle.promises.proofs.Contents.{interface-refl, word-elsewhere, word-both}
use Rattle.promises.proofs.Alike.{sound-still, host-same}
use Rattle.promises.proofs.Own.{by_number, others-kept}
use Rattle.promises.proofs.Sound.{revocable}
use Rattle.promises.proofs.Told.{answer-same, held_same}

-- ---- a call that isn't about a machine is about another host

found_name : (r : Rights) (names name : List ℕ) (i k m : ℕ) → found_from r names name i k ≡ suc m → same (name_at r names m) name ≡ true
unfolding found_from
found_name r names name i zero m e = absurd (omega arith)
found_name r names name i (suc k) m e = by-same (same (name_at r names i) name) refl e (found_name r names name (i + 1) k m) where
  by-same : (b : Bool) → same (name_at r names i) name ≡ b → pick b (i + 1) (found_from r names name (i + 1) k) ≡ suc m
      → (found_from r names name (i + 1) k ≡ suc m → same (name_at r names m) name ≡ true) → same (name_at r names m) name ≡ true
  by-same true q f later = let here : m ≡ i = omega arith in rw here q
  by-same false q f later = later f

elsewhere : (A : Machine) (chosen : ℕ → Bool) (s : State) → IsHost A s → (c : Call) → mine A chosen c ≡ false → subject s c ≢ A.number
unfolding found
elsewhere A chosen s h (request p f room) m e =
    same_false (asked p) A.name m
    (sym (same_true _ _ (found_name s.rights s.names (asked p) 0 s.rights.hosts (A.number - 1) (omega arith))) ∙ h.name)
elsewhere A chosen s h (proof k p room) m x = eqb-false _ _ m x
elsewhere A chosen s h (command p room) m x = eqb-false _ _ m x
elsewhere A chosen s h (reply k n pay room) m x = eqb-false _ _ m x
elsewhere A chosen s h (close k) m x = eqb-false _ _ m x
elsewhere A chosen s h (revoke i e w) m x = omega arith

-- ---- the contents of the chosen interfaces

module _ (A : Machine) (chosen : ℕ → Bool) where
  contents-kept : (s : State) → SoundTyped s → (c : Call) → mine A chosen c ≡ false
      → (j : ℕ) → chosen j ≡ true → Names j s.rights.interfaces → SameInterface s.rights (next s c).rights j
  unfolding next revoking
  contents-kept s h (request p f room) m j k l = interface-refl _ j
  contents-kept s h (proof n p room) m j k l = interface-refl _ j
  contents-kept s h (command p room) m j k l = interface-refl _ j
  contents-kept s h (reply n x pay room) m j k l = interface-refl _ j
  contents-kept s h (close n) m j k l = interface-refl _ j
  contents-kept s h (revoke i e w) m j k l =
      by_number (λ r. SameInterface s.rights r j) (revoke_refusal s.rights i e)
      (λ z. let known = revocable s.rights i e z in
      let facts = sound-facts s.rights h.sound in
      let here = (facts.interface (i - 1) (omega arith)).entries in
      let there = (facts.interface (j - 1) (omega arith)).entries in
      let apart : j ≢ i = λ q. true≢false (sym k ∙ ap chosen q ∙ m) in
      word-elsewhere s.rights (i - 1) (e - 1) _ j (λ d x q. apart (omega arith)))
      (λ z. interface-refl _ j)

  contents-same : {s t : State} → Alike A chosen s t → (c : Call) → mine A chosen c ≡ true → answer s c ≡ answer t c
      → (j : ℕ) → chosen j ≡ true → Names j s.rights.interfaces → SameInterface (next s c).rights (next t c).rights j
  unfolding answer next revoking
  contents-same h (request p f room) m a j k l = h.contents j k l
  contents-same h (proof n p room) m a j k l = h.contents j k l
  contents-same h (command p room) m a j k l = h.contents j k l
  contents-same h (reply n x pay room) m a j k l = h.contents j k l
  contents-same h (close n) m a j k l = h.contents j k l
  contents-same {s} {t} h (revoke i e w) m a j k l = by_answer (revoke_refusal s.rights i e) refl (sym (ap (λ x. x.number) a)) where
    by_answer : (n : ℕ) → revoke_refusal s.rights i e ≡ n → revoke_refusal t.rights i e ≡ revoke_refusal s.rights i e
        → SameInterface (next s (revoke i e w)).rights (next t (revoke i e w)).rights j
    by_answer zero x y =
        let in-s = revocable s.rights i e x in
        let in-t = revocable t.rights i e (y ∙ x) in
        let word : (right_of s.rights i e).word ≡ (right_of t.rights i e).word =
        in-s.word s.rights.words ∙ (h.contents i m in-s.interface).word e in-s.entry ∙ sym (in-t.word t.rights.words) in
        rw (y, x, word) (word-both s.rights t.rights (i - 1) (e - 1) _ j h.first.words h.second.words (h.contents j k l))
    by_answer (suc n) x y = rw (y, x) (h.contents j k l)

  -- ---- the two

  pub respect : (s : State) → SoundTyped s → IsHost A s → (c : Call) → mine A chosen c ≡ false → Alike A chosen s (next s c)
  respect s h k c m = record {
    first = h;
    second = sound-still s c h;
    host = k;
    hosts = hosts-kept s c;
    interfaces = interfaces-kept s c;
    contents = contents-kept s h c m;
    held = sym (others-kept s c A.number k.number.0 (elsewhere A chosen s k c m) h.records);
  }

  pub step : {s t : State} → Alike A chosen s t → (c : Call) → mine A chosen c ≡ true → Named A chosen s c → Alike A chosen (next s c) (next t c)
  step {s} {t} h c m n =
      let a = answer-same h c m n in record {
        first = sound-still s c h.first;
        second = sound-still t c h.second;
        host = host-same h.host (hosts-kept s c);
        hosts = hosts-trans (hosts-sym (hosts-kept s c)) (hosts-trans h.hosts (hosts-kept t c));
        interfaces = sym (interfaces-kept s c) ∙ h.interfaces ∙ interfaces-kept t c;
        contents = λ i k l. contents-same h c m a i k (rw (interfaces-kept s c) l);
        held = held_same h c a;
      }
