-- `packet::sealed::decipher` meets its contract: what was put at the start of the room is deciphered there.
use mathlib.Core.Path.{sym, ap, ap₂, ◌∙◌}
use mathlib.Core.List.{List, ◌++◌}
use Prim.Native.Nat.{ℕ}
use lib.ListN.{length, take, drop}
use Rattle.aes.specs.Prepared.{under}
use Rattle.gcm.specs.Gctr.{gctr}
use Rattle.gcm.specs.Gcm.{counter}
use Rattle.gcm.proofs.AnswerLaws.{put-lent, put_rest}
use Rattle.packet.proofs.SealedLaws.{room-done, room-short}
use Rattle.packet.proofs.sealed.decipher.Goals as goal

pub returns-then-room-m : goal.returns-then-room-m
returns-then-room-m c =
    let a = c.args in
    room-short a.p.now (counter a.iv a.n) a.x.now a.room.now c.if-room-m.true

pub slice_bounds-crypt-end-2 : goal.slice_bounds-crypt-end-2
slice_bounds-crypt-end-2 c =
    let a = c.args in
    sym (ap length (ap (take (length a.x.now)) c.put.ensures ∙ put-lent a.x.now a.room.now c.if-room-m.false))

pub returns : goal.returns
returns c =
    let a = c.args in
    let x = a.x.now in
    let room = a.room.now in
    let icb = counter a.iv a.n in
    let lent = ap (take (length x)) c.put.ensures ∙ put-lent x room c.if-room-m.false in
    let rest = ap (drop (length x)) c.put.ensures ∙ put_rest x room c.if-room-m.false in
    ap₂ (λ (y r : List ℕ). y ++ r) (c.crypt.ensures.0 ∙ ap (λ (y : List ℕ). (gctr (under a.p.now) icb y).bytes) lent) rest
    ∙ room-done a.p.now icb x room c.if-room-m.false
