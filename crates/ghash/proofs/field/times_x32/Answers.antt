-- `ghash::field::times_x32` meets its contract: 32 steps shift v, and bring back the bits shifted out.
use Rattle.ghash.proofs.ShiftLaws.{back, x32-shifts}
use Rattle.ghash.proofs.field.times_x32.Goals as goal

pub returns : goal.returns
unfolding back
returns c = x32-shifts c.args.v
