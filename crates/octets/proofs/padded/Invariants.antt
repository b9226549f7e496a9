-- `octets::padded` meets its contract. The invariant: the first i bytes, there or not, stand over zeros.
use mathlib.Core.Path.{◌≡◌}
use lib.ListN.{length, replicate}
use lib.Seq.{paste}
use Rattle.octets.specs.Room.{filled}
use Rattle.octets.proofs.padded.Given as goal

abbrev pub invariant-loop-i : goal.invariant-loop-i
invariant-loop-i g l = (length l.out ≡ g.row.N) × (l.out ≡ paste (replicate g.row.N 0) 0 (filled g.row.N l.s 0) l.i)
