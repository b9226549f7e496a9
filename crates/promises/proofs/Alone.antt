-- Demand 3, noninterference: what a machine is told depends on its own calls and on the interfaces that it names, and on nothing else.
use mathlib.Core.Path.{◌≡◌, refl, sym, ap, subst, ◌∙◌}
use mathlib.Core.Bool.{Bool, true, false}
use mathlib.Core.List.{List, [], ◌∷◌}
use Prim.Native.Nat.{ℕ}
use borrow.Author.Tests.{eqb-false}
use lib.ListN.{length}
use Rattle.state.specs.declared.State.{State}
use Rattle.fields.specs.Command.{client_of}
use Rattle.promises.specs.Step.{Call, request, proof, command, reply, close, revoke, next}
use Rattle.promises.specs.Told.{Machine, about, mine, keep, keep_if, told, heard, Named, AllNamed}
use Rattle.promises.specs.Facts.{Opens}
use Rattle.promises.specs.Places.{record_at}
use Rattle.promises.specs.Alike.{SoundTyped, IsHost, Alike}
use Rattle.promises.proofs.Alike.{host-same, alike_refl, alike-sym, alike-trans, see-same}
use Rattle.promises.proofs.Facts.{text_same, opens-zero, zero-opens}
use Rattle.promises.proofs.Told.{answer-same}
use Rattle.promises.proofs.Unwinding.{respect, step}

-- two sound states that look alike to A, and two series in which the calls about A and the revocations on chosen interfaces are the same, in the
-- same order; and each of A's commands that opens in the first names a chosen interface or a number that no interface has
abbrev pub Noninterference : Type 0
Noninterference =
    (A : Machine) (chosen : ℕ → Bool) (s t : State) (xs ys : List Call) → Alike A chosen s t
    → keep (mine A chosen) xs ≡ keep (mine A chosen) ys → AllNamed A chosen s xs
    → heard A s xs ≡ heard A t ys

-- "Calls left out count as other calls, so A's answers are also those of a box that heard only A and those revocations."
abbrev pub HeardAlone : Type 0
HeardAlone =
    (A : Machine) (chosen : ℕ → Bool) (s : State) (cs : List Call) → SoundTyped s → IsHost A s → AllNamed A chosen s cs
    → heard A s cs ≡ heard A s (keep (mine A chosen) cs)

module _ (A : Machine) (chosen : ℕ → Bool) where
  -- A's command opens in both or in neither, and names the same
  named-same : {s t : State} → Alike A chosen s t → (c : Call) → Named A chosen s c → Named A chosen t c
  named-same h (request p f room) n = tt
  named-same h (proof k p room) n = tt
  named-same {s} {t} h (command p room) n = λ e o.
      let text = text_same s t p (subst (λ n. record_at s n ≡ record_at t n) (sym e) h.held) in
      let opens : Opens s p (length room) = zero-opens s p _ (rw (see-same h (client_of p) e) (opens-zero t p (length room) o)) in
      rw (← text, ← h.interfaces) (n e opens)
  named-same h (reply k m pay room) n = tt
  named-same h (close k) n = tt
  named-same h (revoke i e w) n = tt

  pub other : {s t : State} → Alike A chosen s t → (c : Call) → mine A chosen c ≡ false → Alike A chosen (next s c) t
  other {s} h c m = alike-trans (alike-sym (respect A chosen s h.first h.host c m)) h

  -- a call that is none of these isn't about A
  not-about : (c : Call) → mine A chosen c ≡ false → about A c ≡ false
  not-about (request p f room) m = m
  not-about (proof k p room) m = m
  not-about (command p room) m = m
  not-about (reply k n pay room) m = m
  not-about (close k) m = m
  not-about (revoke i e w) m = refl

  -- the box that heard only those: its series names no more than the first did
  pub alone-named : (s t : State) (cs : List Call) → Alike A chosen s t → AllNamed A chosen s cs → AllNamed A chosen t (keep (mine A chosen) cs)
  alone-named s t [] h n = tt
  alone-named s t (c ∷ cs) h n = by-mine (mine A chosen c) refl (λ u. alone-named (next s c) u cs) where
    by-mine : (b : Bool) → mine A chosen c ≡ b
        → ((u : State) → Alike A chosen (next s c) u → AllNamed A chosen (next s c) cs → AllNamed A chosen u (keep (mine A chosen) cs))
        → AllNamed A chosen t (keep_if b c (keep (mine A chosen) cs))
    by-mine true m later = (named-same h c n.0, later (next t c) (step A chosen h c m n.0) n.1)
    by-mine false m later = later t (other h c m) n.1

  -- a call of another's names nothing for A
  named_other : (s : State) (c : Call) → mine A chosen c ≡ false → Named A chosen s c
  named_other s (request p f room) m = tt
  named_other s (proof k p room) m = tt
  named_other s (command p room) m = λ e. absurd (eqb-false _ _ m e)
  named_other s (reply k n pay room) m = tt
  named_other s (close k) m = tt
  named_other s (revoke i e w) m = tt

  -- and no less: what holds of the run of those calls alone holds of the whole
  pub named-whole : (s t : State) (cs : List Call) → Alike A chosen s t → AllNamed A chosen t (keep (mine A chosen) cs) → AllNamed A chosen s cs
  named-whole s t [] h n = tt
  named-whole s t (c ∷ cs) h n = by-mine (mine A chosen c) refl n (λ u. named-whole (next s c) u cs) where
    by-mine : (b : Bool) → mine A chosen c ≡ b → AllNamed A chosen t (keep_if b c (keep (mine A chosen) cs))
        → ((u : State) → Alike A chosen (next s c) u → AllNamed A chosen u (keep (mine A chosen) cs) → AllNamed A chosen (next s c) cs)
        → AllNamed A chosen s (c ∷ cs)
    by-mine true m k later =
        let back = alike-sym h in
        (named-same back c k.0, later (next t c) (alike-sym (step A chosen back c m k.0)) k.1)
    by-mine false m k later = (named_other s c m, later t (other h c m) k)

  -- and it tells A the same
  alone : (s t : State) (cs : List Call) → Alike A chosen s t → AllNamed A chosen t (keep (mine A chosen) cs)
      → heard A s cs ≡ heard A t (keep (mine A chosen) cs)
  alone s t [] h n = refl
  alone s t (c ∷ cs) h n = by-mine (mine A chosen c) refl n (λ u. alone (next s c) u cs) where
    by-mine : (b : Bool) → mine A chosen c ≡ b → AllNamed A chosen t (keep_if b c (keep (mine A chosen) cs))
        → ((u : State) → Alike A chosen (next s c) u → AllNamed A chosen u (keep (mine A chosen) cs)
        → heard A (next s c) cs ≡ heard A u (keep (mine A chosen) cs))
        → keep_if (about A c) (told A s c) (heard A (next s c) cs) ≡ heard A t (keep_if b c (keep (mine A chosen) cs))
    by-mine true m k later =
        let back = alike-sym h in
        let after = alike-sym (step A chosen back c m k.0) in
        rw (← answer-same back c m k.0, after.held, later (next t c) after k.1)
    by-mine false m k later = rw (not-about c m) (later t (other h c m) k)

pub heard-alone : HeardAlone
heard-alone A chosen s cs h k n = let self = alike_refl h k in alone A chosen s s cs self (alone-named A chosen s s cs self n)

pub noninterference : Noninterference
noninterference A chosen s t xs ys h e n =
    let named = alone-named A chosen s t xs h n in
    let self = alike_refl h.second (host-same h.host h.hosts) in
    alone A chosen s t xs h named ∙ ap (heard A t) e ∙ sym (alone A chosen t t ys self (rw e at named))
