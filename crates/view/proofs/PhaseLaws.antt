-- Phases: what doesn't hold of an idle and of a waiting record doesn't hold of any that isn't open.
use mathlib.Core.Path.{◌≡◌, refl}
use Prim.Native.Nat.{ℕ}
use mathlib.Core.Bool.{Bool, false}
use Rattle.state.specs.declared.transitions.Phase.{Phase}
use Rattle.state.specs.declared.transitions.Phase.TheVariants.{Idle, Waiting, Open}

pub shut : (f : Phase → Bool) → f Idle ≡ false → f Waiting ≡ false → (p : Phase) → ((n : ℕ) → (o : Bool) → p ≡ Open n o → ⊥) → f p ≡ false
shut f i w Idle h = i
shut f i w Waiting h = w
shut f i w (Open n o) h = absurd (h n o refl)
