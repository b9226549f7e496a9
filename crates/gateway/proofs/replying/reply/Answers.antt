-- `replying::reply` meets its contract: by the number that `judge` gives.
use mathlib.Core.Path.{sym, ap, ◌∙◌}
use native.Mathlib.Omega.{arith}
use Rattle.octets.specs.Room.{placed}
use Rattle.gateway.specs.Reply.{replying, reply_room}
use Rattle.gateway.proofs.ReplyLaws.{replies, reply-sealed}
use Rattle.gateway.proofs.replying.reply.Goals as goal

pub overflow_cast-payload : goal.overflow_cast-payload
overflow_cast-payload c = let p = replies _ _ _ _ _ (sym c.in_ok-judge.ensures) in omega arith

pub overflow_sub-from : goal.overflow_sub-from
overflow_sub-from c = omega (arith, (replies _ _ _ _ _ (sym c.in_ok-judge.ensures)).host.0)

pub returns : goal.returns
unfolding replying reply_room
returns c =
    let a = c.args in
    let made = reply-sealed c.see-v.result.held.key a.sequence a.payload.now a.room.now (replies _ _ _ _ _ (sym c.in_ok-judge.ensures)).room
    _ _ c.reply_vector-vector.ensures c.reply_lead-lead.ensures in
    rw (← c.see-v.ensures, ← c.in_ok-judge.ensures) (
      rw (c.with_record-after.ensures, c.from.ensures, c.reply.ensures, c.seal-blocks.ensures.1 ∙ made.1),
      c.seal-blocks.ensures.0 ∙ ap (placed a.room.now 0) made.0,
    )
