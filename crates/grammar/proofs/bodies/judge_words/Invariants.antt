-- `bodies::judge_words` meets its contract, word by word.
use Rattle.layout.specs.Layout.{entries}
use Rattle.grammar.specs.Checks.{word_checks}
use Rattle.grammar.proofs.FaultLaws.{Left}
use Rattle.grammar.proofs.bodies.judge_words.Given as goal

abbrev pub invariant-loop-j : goal.invariant-loop-j
invariant-loop-j l = Left (word_checks l.book l.i) l.j (entries l.book l.i)
