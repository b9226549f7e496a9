-- `keys::round_key` meets its contract: the words have the bytes that were copied.
use mathlib.Core.Path.{◌∙◌}
use native.Mathlib.Omega.{arith}
use Rattle.aes.proofs.KeyLaws.{key-read}
use Rattle.aes.proofs.keys.round_key.Goals as goal

pub returns : goal.returns
returns c =
    let copied = c.copy_from_slice.ensures in
    c.from.ensures ∙ key-read c.args.p.now _ c.args.i _ copied.len copied.after (omega arith)
