-- `commanding::command`: the client of an accepted command is one of the hosts.
use mathlib.Core.Path.{sym, ap}
use Rattle.command.specs.Heard.{Heard}
use Rattle.gateway.proofs.CommandLaws.{heard-client}
use Rattle.gateway.proofs.commanding.command.Goals as goal

pub overflow_sub-from : goal.overflow_sub-from
overflow_sub-from c =
    rw (c.from.ensures, c.at-client.ensures) (heard-client _ _ _ _ (sym (ap (λ (x : Heard). x.number) c.in_ok-heard.ensures.0))).0
