-- `listing::lines::put_ending` meets its contract: its three pieces are put as one.
use Rattle.listing.proofs.PageLaws.{adds_then}
use Rattle.listing.proofs.lines.put_ending.Goals as goal

pub returns : goal.returns
returns c = adds_then (adds_then c.put.ensures c.put-2.ensures) c.put-3.ensures
