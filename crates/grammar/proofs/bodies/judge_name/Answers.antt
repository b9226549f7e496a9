-- `bodies::judge_name` meets its contract: the letters first, then whether the name was used.
use mathlib.Core.Path.{◌≡◌, ◌∙◌}
use mathlib.Core.Bool.{Bool, true, false}
use mathlib.Core.List.{[], ◌∷◌}
use Rattle.std.specs.Prelude.{Ok, Err}
use Prim.Native.Nat.{ℕ}
use Rattle.grammar.specs.Faults.{◌at◌when◌, fault, none, first}
use Rattle.grammar.specs.Checks.{name_checks}
use Rattle.grammar.proofs.FaultLaws.{stop, go}
use Rattle.grammar.proofs.bodies.judge_name.Goals as goal

used : (p : ℕ) (t : Bool) → true ≡ t → fault 48 p ≡ first (48 at p when t ∷ [])
unfolding first
used p t e = rw (← e)

unused : (p : ℕ) (t : Bool) → false ≡ t → none ≡ first (48 at p when t ∷ [])
unfolding first
unused p t e = rw (← e)

pub returns-in_err-judge_letters : goal.returns-in_err-judge_letters
unfolding name_checks
returns-in_err-judge_letters c =
    rw (← c.name_start-at.ensures.0, ← c.name.ensures) (stop _ _ _ _ c.from_residual.ensures.1 c.in_err-judge_letters.ensures)

pub returns-then-used_before : goal.returns-then-used_before
unfolding name_checks
returns-then-used_before c =
    rw (← c.name_start-at.ensures.0, ← c.name.ensures)
    (go _ _ (Err c.at.result) c.in_ok-judge_letters.ensures (c.at.ensures ∙ used _ _ c.if-used_before.ensures))

pub returns : goal.returns
unfolding name_checks
returns c =
    rw (← c.name_start-at.ensures.0, ← c.name.ensures) (go _ _ (Ok tt) c.in_ok-judge_letters.ensures (unused _ _ c.if-used_before.ensures))
