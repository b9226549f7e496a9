-- `prepare` meets its contract: the words that are expanded have the bytes of the key.
use mathlib.Core.Path.{ap, ◌∙◌}
use Rattle.aes.specs.Prepared.{prepared}
use Rattle.aes.proofs.prepare.Goals as goal

pub returns : goal.returns
returns c = c.expand.ensures ∙ ap prepared c.from.ensures
