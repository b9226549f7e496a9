-- `dq_proof` meets its contract: what `gateway::proof` answers is the step's answer, and the records are stored where it is accepted.
use Rattle.promises.specs.Step.{answer, next}
use Rattle.lent.proofs.Stored.{changed}
use Rattle.lent.proofs.dq_proof.Goals as goal

pub returns : goal.returns
unfolding answer next
returns c =
    let s = changed c.args.state.now c.proof-said.result c.store.ensures c.proof-said.ensures.0 in
    (s.0, s.1, c.proof-said.ensures.1, s.2)
