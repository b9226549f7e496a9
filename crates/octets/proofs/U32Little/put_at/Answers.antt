-- `u32::put_at` meets its contract: by what `put` ensures of the number's bytes.
use mathlib.Core.Path.{ap, ◌∙◌}
use Rattle.std.specs.Int.{w32}
use Rattle.octets.specs.Room.{placed}
use Rattle.octets.proofs.WidthLaws.{little_bytes}
use Rattle.octets.proofs.U32Little.put_at.Goals as goal

pub returns : goal.returns
returns c =
    let a = c.args in
    c.put.ensures ∙ ap (placed a.room.now a.at) (c.to_le_bytes.ensures ∙ little_bytes w32 a.self)
