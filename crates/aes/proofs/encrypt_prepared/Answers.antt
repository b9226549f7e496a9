-- `encrypt_prepared` meets its contract: the words that go through the rounds have the bytes of the block.
use mathlib.Core.Path.{ap, ◌∙◌}
use Rattle.aes.specs.Prepared.{under}
use Rattle.aes.proofs.encrypt_prepared.Goals as goal

pub returns : goal.returns
returns c =
    c.into.ensures
    ∙ c.rounds.ensures
    ∙ ap (under c.args.p.now) c.from.ensures
