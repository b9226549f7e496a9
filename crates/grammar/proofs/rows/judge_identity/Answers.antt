-- `rows::judge_identity` meets its contract: of the rows before row i at most i are hosts.
use Rattle.grammar.proofs.HostLaws.{hosts-le}
use Rattle.grammar.proofs.rows.judge_identity.Goals as goal

pub kind_fits-requires : goal.kind_fits-requires
kind_fits-requires c = rw c.requires (hosts-le _ c.args.i)

pub ordinal-requires : goal.ordinal-requires
ordinal-requires c = rw c.requires (hosts-le _ c.args.i)
