-- `listing::lines::interface_lines` meets its contract. The invariant: the first i lines are put.
use Rattle.listing.specs.Lines.{interface_line, lines_from}
use Rattle.listing.specs.Page.{Adds}
use Rattle.listing.proofs.lines.interface_lines.Given as goal

abbrev pub invariant-loop-i : goal.invariant-loop-i
invariant-loop-i l = Adds l.initial.page (lines_from (interface_line l.rights l.labels) 0 l.i) l.page
