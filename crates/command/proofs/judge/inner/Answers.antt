-- `judge::inner` meets its contract: the row that the check doesn't find alone.
use borrow.Author.Tests.{eq-eqb}
use Rattle.octets.proofs.CheckLaws.{is_zero-false}
use Rattle.command.specs.Command.{inner}
use Rattle.command.proofs.judge.inner.Goals as goal

pub returns-then-o-ne0 : goal.returns-then-o-ne0
unfolding inner
returns-then-o-ne0 c = rw (eq-eqb _ _ c.if-o-client.false, is_zero-false _ c.if-o-ne0.true)
