-- Demand 3: two states that look alike to a machine still do after two series in which the calls about it and the revocations on chosen interfaces
-- are the same.
use mathlib.Core.Path.{◌≡◌, refl}
use mathlib.Core.Bool.{Bool, true, false}
use mathlib.Core.List.{List, [], ◌∷◌}
use Prim.Native.Nat.{ℕ}
use Rattle.state.specs.declared.State.{State}
use Rattle.promises.specs.Step.{Call, next}
use Rattle.promises.specs.Series.{after}
use Rattle.promises.specs.Told.{Machine, mine, keep, keep_if, AllNamed}
use Rattle.promises.specs.Alike.{Alike}
use Rattle.promises.proofs.Alike.{host-same, alike_refl, alike-sym, alike-trans}
use Rattle.promises.proofs.Unwinding.{step}
use Rattle.promises.proofs.Alone.{other, alone-named}

abbrev pub EndsAlike : Type 0
EndsAlike =
    (A : Machine) (chosen : ℕ → Bool) (s t : State) (xs ys : List Call) → Alike A chosen s t
    → keep (mine A chosen) xs ≡ keep (mine A chosen) ys → AllNamed A chosen s xs
    → Alike A chosen (after s xs) (after t ys)

module _ (A : Machine) (chosen : ℕ → Bool) where
  -- after a series, and after those of its calls alone
  alone-after : (s t : State) (cs : List Call) → Alike A chosen s t → AllNamed A chosen t (keep (mine A chosen) cs)
      → Alike A chosen (after s cs) (after t (keep (mine A chosen) cs))
  unfolding after
  alone-after s t [] h n = h
  alone-after s t (c ∷ cs) h n = by-mine (mine A chosen c) refl n (λ u. alone-after (next s c) u cs) where
    by-mine : (b : Bool) → mine A chosen c ≡ b → AllNamed A chosen t (keep_if b c (keep (mine A chosen) cs))
        → ((u : State) → Alike A chosen (next s c) u → AllNamed A chosen u (keep (mine A chosen) cs)
        → Alike A chosen (after (next s c) cs) (after u (keep (mine A chosen) cs)))
        → Alike A chosen (after (next s c) cs) (after t (keep_if b c (keep (mine A chosen) cs)))
    by-mine true m k later = later (next t c) (alike-sym (step A chosen (alike-sym h) c m k.0)) k.1
    by-mine false m k later = later t (other A chosen h c m) k

pub ends-alike : EndsAlike
ends-alike A chosen s t xs ys h e n =
    let named = alone-named A chosen s t xs h n in
    let self = alike_refl h.second (host-same h.host h.hosts) in
    alike-trans (rw e at (alone-after A chosen s t xs h named)) (alike-sym (alone-after A chosen t t ys self (rw e at named)))
