-- `ghash::field::times_x` meets its contract: R is added where the bit shifted out is 1.
use Rattle.ghash.specs.Field.{next_z, next_v}
use Rattle.ghash.proofs.field.times_x.Goals as goal

pub returns : goal.returns
unfolding next_z next_v
returns c = c.add.ensures
