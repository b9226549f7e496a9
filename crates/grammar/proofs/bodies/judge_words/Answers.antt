use mathlib.Core.Path.{refl}
use Rattle.std.specs.Prelude.{Err}
use native.Mathlib.Omega.{arith}
use Rattle.grammar.specs.Faults.{first}
use Rattle.grammar.proofs.FaultLaws.{left-stop}
use Rattle.grammar.proofs.bodies.judge_words.Goals as goal

pub returns-then-not-word_fits : goal.returns-then-not-word_fits
unfolding first
returns-then-not-word_fits c =
    left-stop _ _ _ c.loop-j.invariant (omega arith) (Err c.at.result) c.at.result refl
    (rw (← c.start-body.ensures.0, ← c.commands-c.ensures, ← c.word.ensures, ← c.if-not-word_fits.ensures, ← c.from.ensures) c.at.ensures)
