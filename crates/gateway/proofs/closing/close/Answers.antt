-- `closing::close`: past the checks there is such a host.
use mathlib.Core.Path.{sym}
use native.Mathlib.Omega.{arith}
use Rattle.gateway.proofs.CloseLaws.{close_passed}
use Rattle.gateway.proofs.closing.close.Goals as goal

pub overflow_sub-from : goal.overflow_sub-from
overflow_sub-from c = omega (arith, (close_passed _ _ (sym c.in_ok-judge_host.ensures)).host.0)
