-- `rows::judge_rows` meets its contract, row by row, and counts the hosts passed.
use mathlib.Core.Path.{◌≡◌}
use Rattle.layout.specs.Layout.{hosts_before}
use Rattle.grammar.specs.Checks.{row_checks}
use Rattle.grammar.proofs.FaultLaws.{Left}
use Rattle.grammar.proofs.rows.judge_rows.Given as goal

abbrev pub invariant-loop-i : goal.invariant-loop-i
invariant-loop-i l = Left (row_checks l.book) l.i l.n × (l.hosts ≡ hosts_before l.book l.i)
