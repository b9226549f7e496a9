use Rattle.std.proofs.Common.{◌+◌, ◌*◌, sym, arith}
use Rattle.state.proofs.SoundLaws.{sound-facts}
use Rattle.listing.specs.Lines.{host_line, lines_from}
use Rattle.listing.proofs.LineLaws.{length-hosts}
use Rattle.listing.proofs.PageLaws.{adds-left, adds_none, adds_then, adds_as}
use Rattle.listing.proofs.PieceLaws.{lines_next}
use Rattle.listing.proofs.lines.host_lines.Goals as goal

pub loop-i-init : goal.loop-i-init
unfolding lines_from
loop-i-init c = adds_none c.args.page.now (omega arith)

pub host_line-requires : goal.host_line-requires
host_line-requires c =
    let r = c.args.rights.now in
    let i = c.loop-i.i in
    let f = sound-facts r c.requires.0 in
    let l = length-hosts r c.requires.0 c.args.names.now i (omega arith) in (
      omega (arith, f.hosts),
      (f.size i c.loop-i-test.true).1,
      adds-left (r.hosts * 277 + 3) 280 c.loop-i.invariant c.requires.1 (omega arith),
    )

pub loop-i-preserved : goal.loop-i-preserved
loop-i-preserved c =
    adds_as (adds_then c.loop-i.invariant c.host_line.ensures) (sym (lines_next (host_line c.args.rights.now c.args.names.now) c.loop-i.i))
