-- What leaves an idle and a waiting record's phase as it is leaves the phase of every record that isn't open.
use mathlib.Core.Path.{◌≡◌, refl}
use mathlib.Core.Bool.{Bool}
use Prim.Native.Nat.{ℕ}
use Rattle.state.specs.declared.transitions.Phase.{Phase}
use Rattle.state.specs.declared.transitions.Phase.TheVariants.{Idle, Waiting, Open}

pub shut : (f : Phase → Phase) → f Idle ≡ Idle → f Waiting ≡ Waiting → (p : Phase) → ((n : ℕ) → (o : Bool) → p ≡ Open n o → ⊥) → f p ≡ p
shut f i w Idle h = i
shut f i w Waiting h = w
shut f i w (Open n o) h = absurd (h n o refl)
