-- `dq_revoke` meets its contract: what `gateway::revoke` answers is the step's answer, and the rights are stored where it is accepted.
use Rattle.promises.specs.Step.{answer, next}
use Rattle.lent.proofs.Stored.{revoked}
use Rattle.lent.proofs.dq_revoke.Goals as goal

pub returns : goal.returns
unfolding answer next
returns c = revoked c.args.state.now c.revoke-said.result c.store.ensures c.revoke-said.ensures
