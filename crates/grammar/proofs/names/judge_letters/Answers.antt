use mathlib.Core.Path.{refl, sym}
use Rattle.std.specs.Prelude.{Err}
use native.Mathlib.Omega.{arith}
use Rattle.grammar.specs.Faults.{first}
use Rattle.grammar.proofs.FaultLaws.{left-stop}
use Rattle.grammar.proofs.LetterLaws.{plain-good}
use Rattle.grammar.proofs.names.judge_letters.Goals as goal

pub returns-then-is_plain : goal.returns-then-is_plain
returns-then-is_plain c = sym (plain-good _ _ (sym c.if-is_plain.ensures) 0 _ (omega arith))

pub returns-then-not-is_fitting : goal.returns-then-not-is_fitting
unfolding first
returns-then-not-is_fitting c =
    left-stop _ _ _ c.loop-k.invariant (omega arith) (Err c.at.result) c.at.result refl (rw (← c.if-not-is_fitting.ensures) c.at.ensures)
