-- `listing::render` meets its contract: a sound state's listing fits the room, and its three parts are put as one.
use Rattle.std.proofs.Common.{◌*◌, ◌+◌, refl, sym, ◌∙◌, zero-add, rules, arith}
use borrow.Author.Tests.{lt-ltb, le-ltb}
use Rattle.state.proofs.SoundLaws.{sound-facts}
use Rattle.listing.specs.Lines.{listing_of, render_refusal, render_length, render_room}
use Rattle.listing.proofs.LineLaws.{length-counts, length-hosts}
use Rattle.listing.proofs.PageLaws.{adds-left, adds_then, adds_out}
use Rattle.listing.proofs.render.Goals as goal

pub returns-then-not-sound : goal.returns-then-not-sound
unfolding render_refusal render_length render_room
returns-then-not-sound c = rw (← c.if-not-sound.ensures) (refl, refl, refl)

pub returns-then-room-lt-LONGEST : goal.returns-then-room-lt-LONGEST
unfolding render_refusal render_length render_room
returns-then-room-lt-LONGEST c = rw (sym c.if-not-sound.ensures, lt-ltb _ 11264 c.if-room-lt-LONGEST.true) (refl, refl, refl)

pub host_lines-requires : goal.host_lines-requires
host_lines-requires c =
    let r = c.args.rights in
    let sound = sym c.if-not-sound.ensures in
    let f = sound-facts r sound in
    (sound, adds-left 11264 (r.hosts * 277 + 3) c.counts_line.ensures c.if-room-lt-LONGEST.false (omega (arith, length-counts r f.hosts f.interfaces, f.hosts)))

pub interface_lines-requires : goal.interface_lines-requires
interface_lines-requires c =
    let r = c.args.rights in
    let sound = sym c.if-not-sound.ensures in
    let f = sound-facts r sound in
    let n = r.interfaces * 292 + 10 in (
      sound,
      adds-left (r.hosts * 277 + n) n c.host_lines.ensures
          (adds-left 11264 (r.hosts * 277 + n) c.counts_line.ensures c.if-room-lt-LONGEST.false (omega (arith, length-counts r f.hosts f.interfaces, f.hosts, f.interfaces)))
          (omega (arith, length-hosts r sound c.args.names.now r.hosts (omega arith))),
    )

pub returns : goal.returns
unfolding render_refusal render_length render_room listing_of
returns c =
    let sound = sym c.if-not-sound.ensures in
    let w = adds_then (adds_then c.counts_line.ensures c.host_lines.ensures) c.interface_lines.ensures in
    rw (sound, le-ltb _ 11264 c.if-room-lt-LONGEST.false) (refl, w.wrote.0 ∙ zero-add _, adds_out w (search rules))
