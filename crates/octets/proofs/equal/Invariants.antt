-- `octets::equal` meets its contract. The invariant: the bits collected are 0 and what is left is the same, just where all is.
use Rattle.std.proofs.Common.{◌≡◌, length}
use mathlib.Core.Bool.{◌&&◌}
use lib.Dec.{eqb}
use Rattle.octets.specs.Same.{same}
use Rattle.octets.proofs.equal.Given as goal

abbrev pub invariant-loop-x : goal.invariant-loop-x
invariant-loop-x l =
    let xs = l.x-iterator.a.rest.now in
    let ys = l.x-iterator.b.rest.now in
    (length xs ≡ length ys) × (eqb l.differ 0 && same xs ys ≡ same l.a l.b)
