-- `dq_close` meets its contract: what `gateway::close` answers is the step's answer, and the records are stored where it is accepted.
use Rattle.promises.specs.Step.{answer, next}
use Rattle.lent.proofs.Stored.{changed}
use Rattle.lent.proofs.dq_close.Goals as goal

pub returns : goal.returns
unfolding answer next
returns c = changed c.args.state.now c.close-said.result c.store.ensures c.close-said.ensures
