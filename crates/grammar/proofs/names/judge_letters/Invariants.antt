-- `names::judge_letters` meets its contract: a plain name has no bad letter, and another is gone through byte by byte.
use lib.ListN.{length}
use Rattle.grammar.specs.Checks.{letter_checks}
use Rattle.grammar.proofs.FaultLaws.{Left}
use Rattle.grammar.proofs.names.judge_letters.Given as goal

abbrev pub invariant-loop-k : goal.invariant-loop-k
invariant-loop-k l = Left (letter_checks l.at l.name) l.k (length l.name)
