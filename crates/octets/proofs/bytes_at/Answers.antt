-- `octets::bytes_at` meets its contract: the bytes from there on begin with the whole of it, or zeros follow them.
use mathlib.Core.Path.{sym, ap, ◌∙◌}
use native.Mathlib.Omega.{arith}
use lib.ListN.{length, drop, take, length-take}
use Rattle.octets.specs.Room.{filled}
use Rattle.octets.proofs.RoomLaws.{filled-whole}
use Rattle.octets.proofs.bytes_at.Goals as goal

pub returns-in-Some : goal.returns-in-Some
returns-in-Some g c =
    let a = c.args in
    let e = c.in-Some.ensures.cases in
    e.same
    ∙ ap (take g.row.N) c.from-there.ensures
    ∙ sym (filled-whole g.row.N a.s.now a.at (omega (arith, e.enough, ap length c.from-there.ensures, length-take g.row.N (drop a.at a.s.now))))

pub returns : goal.returns
unfolding filled
returns g c = c.padded.ensures ∙ ap (λ t. filled g.row.N t 0) c.from-there.ensures
