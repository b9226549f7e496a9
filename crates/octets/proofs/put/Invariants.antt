-- `octets::put` meets its contract. The invariant: the first i bytes of x are over the room from `at` on.
use mathlib.Core.Path.{◌≡◌}
use lib.ListN.{length}
use lib.Seq.{paste}
use Rattle.octets.proofs.put.Given as goal

abbrev pub invariant-loop-i : goal.invariant-loop-i
invariant-loop-i l = (length l.room ≡ length l.initial.room) × (l.room ≡ paste l.initial.room l.at l.x l.i)
