-- `dq_reply` meets its contract: what `gateway::reply` answers is the step's answer, and the records are stored where it is accepted.
use Rattle.promises.specs.Step.{answer, next}
use Rattle.lent.proofs.Stored.{changed}
use Rattle.lent.proofs.dq_reply.Goals as goal

pub returns : goal.returns
unfolding answer next
returns c =
    let s = changed c.args.state.now c.reply-said.result c.store.ensures c.reply-said.ensures.0 in
    (s.0, s.1, c.reply-said.ensures.1, s.2)
