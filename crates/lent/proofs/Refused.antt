-- What a lent call's walk cites of the steps: a refused step leaves the state as it was, so a call that stores nothing then has taken the step.
use mathlib.Core.Path.{◌≡◌, sym, ◌∙◌}
use mathlib.Core.Logic.{◌≢◌}
use Prim.Native.Nat.{ℕ}
use Rattle.state.specs.declared.State.{State}
use Rattle.promises.specs.Step.{Call, answer, next}
use Rattle.promises.proofs.Refused.{refusal-keeps}

-- the state that a refused step leaves is the lent one
pub refused : (h : State) (c : Call) {m : ℕ} {y : State} → m ≡ (answer h c).number → y ≡ next h c → m ≢ 0 → y ≡ h
refused h c number after d = after ∙ (refusal-keeps h c (λ z. d (number ∙ z))).0

-- and so what is left unstored is the state after the step
pub stays : (h : State) (c : Call) {m : ℕ} {y : State} → m ≡ (answer h c).number → y ≡ next h c → m ≢ 0 → h ≡ next h c
stays h c number after d = sym (refused h c number after d) ∙ after
