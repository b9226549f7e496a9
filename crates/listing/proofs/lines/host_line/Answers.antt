-- `listing::lines::host_line` meets its contract: its pieces are put as one.
use Rattle.std.proofs.Common.{◌≤◌, ◌*◌, length, ap, ◌∙◌, arith}
use Rattle.listing.specs.Lines.{ending, host_line}
use Rattle.listing.proofs.LineLaws.{part-within}
use Rattle.listing.proofs.PageLaws.{adds_then, adds_as}
use Rattle.listing.proofs.lines.host_line.Goals as goal

pub put_ending-requires : goal.put_ending-requires
put_ending-requires c =
    let s : c.from.result ≤ 256 = rw (c.from.ensures, c.from-k.ensures) c.requires.1 in
    omega (arith, ap length c.part.ensures, part-within c.args.names.now (256 * c.from-k.result) c.from.result)

pub returns : goal.returns
unfolding host_line
returns c =
    let k = c.from-k.ensures in
    adds_then
    (adds_then c.put_labelled.ensures.put (rw k at c.put_labelled-2.ensures.put))
    (adds_as c.put_ending.ensures (ap ending (c.part.ensures ∙ rw (c.from.ensures, k))))
