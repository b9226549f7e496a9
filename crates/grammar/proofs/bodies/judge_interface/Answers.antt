-- `bodies::judge_interface` meets its contract: the counts first, then the words.
use Rattle.grammar.specs.Checks.{interface_checks}
use Rattle.grammar.proofs.FaultLaws.{stop, go}
use Rattle.grammar.proofs.bodies.judge_interface.Goals as goal

pub returns-in_err-judge_counts : goal.returns-in_err-judge_counts
unfolding interface_checks
returns-in_err-judge_counts c = stop _ _ _ _ c.from_residual.ensures.1 c.in_err-judge_counts.ensures

pub returns : goal.returns
unfolding interface_checks
returns c = go _ _ _ c.in_ok-judge_counts.ensures c.judge_words.ensures
