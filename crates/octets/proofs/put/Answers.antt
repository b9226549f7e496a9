use mathlib.Core.Path.{◌≡◌, sym, ◌∙◌}
use native.Mathlib.Numerals.{add-one}
use native.Mathlib.Omega.{arith}
use lib.ListN.{length, length-set}
use lib.Seq.{paste-suc}
use Rattle.octets.proofs.RoomLaws.{placed-fits, placed-short, pasted}
use Rattle.octets.proofs.put.Goals as goal
use Rattle.octets.proofs.put.Goals.{else-at-room-via-then-at-room+else-x-room, else-at-room-via-else-at-room}

pub loop-i-preserved : goal.loop-i-preserved
loop-i-preserved c =
    let a = c.args in (
      simp length-set c.loop-i.invariant.0,
      rw (c.loop-i.invariant.1, add-one) (paste-suc a.room.now a.at a.x.now c.loop-i.i 0 (omega arith) (omega arith)),
    )

pub returns-after-loop-i : goal.returns-after-loop-i
returns-after-loop-i c =
    let a = c.args in
    let e : c.loop-i.i ≡ length a.x.now = omega arith in
    rw e at c.loop-i.invariant.1 ∙ pasted a.room.now a.at a.x.now ∙ sym (placed-fits a.room.now a.at a.x.now (omega arith))

pub returns-else-at-room : goal.returns-else-at-room
returns-else-at-room c =
    let a = c.args in
    sym (placed-short a.room.now a.at a.x.now
    (elim c.else-at-room.branch [ else-at-room-via-then-at-room+else-x-room w ↦ omega arith | else-at-room-via-else-at-room w ↦ omega arith ]))
