-- `bodies::judge_bodies` meets its contract, body by body.
use Rattle.grammar.specs.Checks.{body_checks}
use Rattle.grammar.proofs.FaultLaws.{Left}
use Rattle.grammar.proofs.bodies.judge_bodies.Given as goal

abbrev pub invariant-loop-i : goal.invariant-loop-i
invariant-loop-i l = Left (body_checks l.book) l.i l.n
