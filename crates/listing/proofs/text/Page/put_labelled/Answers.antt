-- `listing::text::Page::put_labelled` meets its contract: the text and the number after it are put as one.
use Rattle.std.proofs.Common.{◌+◌, length, arith}
use Rattle.listing.proofs.DecimalLaws.{length_digits}
use Rattle.listing.proofs.PageLaws.{adds-left, adds_then}
use Rattle.listing.proofs.text.Page.put_labelled.Goals as goal

pub put_number-requires : goal.put_number-requires
put_number-requires c = adds-left (length c.args.x.now + 5) _ c.put.ensures c.requires (omega (arith, length_digits 5 c.args.n))

pub returns-clause-put : goal.returns-clause-put
returns-clause-put c = adds_then c.put.ensures c.put_number.ensures

pub returns-clause-most : goal.returns-clause-most
returns-clause-most c = omega (arith, length_digits 5 c.args.n)
