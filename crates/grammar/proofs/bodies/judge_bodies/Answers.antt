use native.Mathlib.Omega.{arith}
use Rattle.grammar.proofs.FaultLaws.{left-stop}
use Rattle.grammar.proofs.bodies.judge_bodies.Goals as goal

pub returns-in_err-judge_body : goal.returns-in_err-judge_body
returns-in_err-judge_body c =
    left-stop _ _ _ c.loop-i.invariant (omega arith) _ _ c.from_residual.ensures.1 c.in_err-judge_body.ensures
