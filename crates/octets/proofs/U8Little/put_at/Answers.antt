-- `u8::put_at` meets its contract: by what `put` ensures of the number's byte.
use mathlib.Core.Path.{ap, ◌∙◌}
use mathlib.Core.List.{[], ◌∷◌}
use native.Mathlib.Omega.{arith}
use Rattle.octets.specs.Little.{octets}
use Rattle.octets.specs.Room.{placed}
use Rattle.octets.proofs.U8Little.put_at.Goals as goal

pub returns : goal.returns
unfolding octets
returns c =
    let a = c.args in
    c.put.ensures ∙ ap (λ n. placed a.room.now a.at (n ∷ [])) (omega arith)
