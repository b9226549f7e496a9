-- `listing::lines::host_lines` meets its contract. The invariant: the first i lines are put.
use Rattle.listing.specs.Lines.{host_line, lines_from}
use Rattle.listing.specs.Page.{Adds}
use Rattle.listing.proofs.lines.host_lines.Given as goal

abbrev pub invariant-loop-i : goal.invariant-loop-i
invariant-loop-i l = Adds l.initial.page (lines_from (host_line l.rights l.names) 0 l.i) l.page
