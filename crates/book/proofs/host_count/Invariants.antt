-- `book::host_count` meets its contract. The invariant: of the first i rows as many are hosts as were counted.
use Rattle.std.proofs.Common.{◌≡◌}
use Rattle.layout.specs.Layout.{hosts_before}
use Rattle.book.proofs.host_count.Given as goal

abbrev pub invariant-loop-i : goal.invariant-loop-i
invariant-loop-i l = l.hosts ≡ hosts_before l.book l.i
