-- `Words::mix_columns` meets its contract: column by column.
use mathlib.Core.List.{◌++◌}
use Rattle.aes.proofs.words.Words.mix_columns.Goals as goal

pub returns : goal.returns
returns c = λ t. c.mix.ensures t ++ c.mix-2.ensures t ++ c.mix-3.ensures t ++ c.mix-4.ensures t
