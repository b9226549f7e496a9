-- `view::right_at`: places are small.
use native.Mathlib.Omega.{arith}
use Rattle.view.proofs.CountedLaws.{place-low}
use Rattle.view.proofs.right_at.Goals as goal

pub overflow_mul-k : goal.overflow_mul-k
overflow_mul-k c =
    let a = c.args in
    omega (arith, place-low a.interface a.rights.interfaces 8)

pub overflow_add-k : goal.overflow_add-k
overflow_add-k c =
    let a = c.args in
    omega (arith, place-low a.interface a.rights.interfaces 8, place-low a.entry c.value_at-count.result 128)

pub overflow_mul-i : goal.overflow_mul-i
overflow_mul-i c =
    omega (arith, c.place_of-i.ensures, c.ranges.interface, place-low c.args.interface c.args.rights.interfaces 8)
