-- `ghash::blocks::block` meets its contract: the 0s after the end are those that `num_at` reads there.
use mathlib.Core.Path.{ap, ◌∙◌}
use Rattle.ghash.specs.Bytes.{num_at}
use Rattle.ghash.proofs.GhashLaws.{num-filled, big_number}
use Rattle.ghash.proofs.blocks.block.Goals as goal

pub returns : goal.returns
returns c =
    c.from_be_bytes.ensures ∙ big_number c.bytes_at.result ∙ ap (λ l. num_at l 0 16) c.bytes_at.ensures ∙ num-filled c.args.s.now
