-- `view::place_of`: there is no thing 0.
use mathlib.Core.Path.{sym, ◌∙◌}
use native.Mathlib.Omega.{arith}
use Rattle.view.proofs.CountedLaws.{such}
use Rattle.view.proofs.place_of.Goals as goal

pub overflow_sub-result : goal.overflow_sub-result
overflow_sub-result c =
    let a = c.args in
    omega (arith, (such a.n a.count (sym c.no_such.ensures ∙ c.if-no_such.false)).0)
