-- `gcm::gctr::counter_block` meets its contract: the vector and then the number.
use mathlib.Core.Path.{◌∙◌}
use Rattle.gcm.proofs.RoomLaws.{counter-made}
use Rattle.gcm.proofs.gctr.counter_block.Goals as goal

pub returns : goal.returns
returns c =
    let first = c.copy_from_slice.ensures in
    counter-made c.args.iv _ _ c.args.n first.len first.after (c.copy_from_slice-2.ensures.after ∙ c.to_be_bytes.ensures)
