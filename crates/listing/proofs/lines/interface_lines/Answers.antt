use Rattle.std.proofs.Common.{◌+◌, ◌*◌, sym, arith}
use Rattle.state.proofs.SoundLaws.{sound-facts}
use Rattle.listing.specs.Lines.{interface_line, lines_from}
use Rattle.listing.proofs.LineLaws.{length-interfaces}
use Rattle.listing.proofs.PageLaws.{adds-left, adds_none, adds_then, adds_as}
use Rattle.listing.proofs.PieceLaws.{lines_next}
use Rattle.listing.proofs.lines.interface_lines.Goals as goal

pub loop-i-init : goal.loop-i-init
unfolding lines_from
loop-i-init c = adds_none c.args.page.now (omega arith)

pub interface_line-requires : goal.interface_line-requires
interface_line-requires c =
    let r = c.args.rights.now in
    let i = c.loop-i.i in
    let f = sound-facts r c.requires.0 in
    let g = f.interface i c.loop-i-test.true in
    let l = length-interfaces r c.requires.0 c.args.labels.now i (omega arith) in (
      omega (arith, f.interfaces),
      g.span.1,
      adds-left (r.interfaces * 292 + 10) 302 c.loop-i.invariant c.requires.1 (omega arith),
    )

pub loop-i-preserved : goal.loop-i-preserved
loop-i-preserved c =
    adds_as (adds_then c.loop-i.invariant c.interface_line.ensures) (sym (lines_next (interface_line c.args.rights.now c.args.labels.now) c.loop-i.i))
