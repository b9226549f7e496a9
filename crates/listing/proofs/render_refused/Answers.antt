-- `listing::render_refused` meets its contract: where the line fits, its pieces are put as one.
use Rattle.std.proofs.Common.{◌≤◌, ◌<◌, rules, refl, ◌∙◌, zero-add, arith}
use borrow.Author.Tests.{le-leb, lt-leb}
use Rattle.listing.specs.Lines.{refused_line, refused_fits, refused_length, refused_room}
use Rattle.listing.proofs.PageLaws.{adds_then, adds_out}
use Rattle.listing.proofs.render_refused.Goals as goal

pub returns-in_default : goal.returns-in_default
unfolding refused_length refused_room refused_fits
returns-in_default c =
    let l : 65535 < c.args.offset = omega (arith, c.in_default.ensures) in
    rw (lt-leb _ 65535 l) record { value = refl; room_after = refl }

pub returns-then-room-lt24 : goal.returns-then-room-lt24
unfolding refused_length refused_room refused_fits
returns-then-room-lt24 c =
    let l : c.args.offset ≤ 65535 = omega (arith, c.in-Ok.ensures) in
    rw (le-leb _ 65535 l, lt-leb 24 _ c.if-room-lt24.true) record { value = refl; room_after = refl }

pub returns : goal.returns
unfolding refused_length refused_room refused_fits refused_line
returns c =
    let l : c.args.offset ≤ 65535 = omega (arith, c.in-Ok.ensures) in
    let w = adds_then (adds_then c.put_labelled.ensures.put c.put_labelled-2.ensures.put) c.put.ensures in
    let v = rw ((c.in-Ok.ensures).1, c.from.ensures) at w in
    rw (le-leb _ 65535 l, le-leb 24 _ c.if-room-lt24.false) record { value = v.wrote.0 ∙ zero-add _; room_after = adds_out v (search rules) }
