-- `revoking::revoke`: past the checks there is such an interface, and such an entry of it.
use mathlib.Core.Path.{sym, ◌∙◌}
use native.Mathlib.Omega.{arith}
use Rattle.view.proofs.CountedLaws.{such}
use Rattle.gateway.proofs.revoking.revoke.Goals as goal

pub overflow_sub-i : goal.overflow_sub-i
overflow_sub-i c = omega (arith, (such _ _ (sym c.no_such.ensures ∙ c.if-no_such.false)).0)

pub overflow_sub-from : goal.overflow_sub-from
overflow_sub-from c = omega (arith, (such _ _ (sym c.no_such-2.ensures ∙ c.if-no_such-2.false)).0)
