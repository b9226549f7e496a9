-- `Words::sub_shift` meets its contract: the four words have the bytes that the S-box and the shift give, column by column.
use mathlib.Core.List.{◌++◌}
use Rattle.aes.proofs.words.Words.sub_shift.Goals as goal

pub returns : goal.returns
returns c =
    λ t.
    c.sub_bytes.ensures t
    ++ c.sub_bytes-2.ensures t
    ++ c.sub_bytes-3.ensures t
    ++ c.sub_bytes-4.ensures t
