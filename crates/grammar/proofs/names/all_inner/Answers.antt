use mathlib.Core.Path.{sym, ◌∙◌}
use Rattle.grammar.proofs.LetterLaws.{inner-step, inner-end}
use Rattle.grammar.proofs.names.all_inner.Goals as goal

pub loop-c-preserved : goal.loop-c-preserved
loop-c-preserved c =
    inner-step c.loop-c.all c.is_inner-all.result c.args.name.now c.loop-c.c-index c.loop-c-test.true c.is_inner-all.ensures ∙ c.loop-c.invariant

pub returns : goal.returns
returns c =
    sym (inner-end c.loop-c.all c.args.name.now c.loop-c.c-index c.loop-c-test.false) ∙ c.loop-c.invariant
