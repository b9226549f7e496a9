-- `listing::lines::counts_line` meets its contract: its pieces are put as one.
use Rattle.listing.specs.Lines.{counts_line}
use Rattle.listing.proofs.PageLaws.{adds_then}
use Rattle.listing.proofs.lines.counts_line.Goals as goal

pub returns : goal.returns
unfolding counts_line
returns c = adds_then (adds_then c.put_labelled.ensures.put c.put_labelled-2.ensures.put) c.put.ensures
