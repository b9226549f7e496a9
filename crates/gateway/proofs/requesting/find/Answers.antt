use mathlib.Core.Path.{◌≡◌, sym, ◌∙◌}
use Prim.Native.Nat.{◌-◌}
use native.Mathlib.Nat.{sub-zero}
use native.Mathlib.Numerals.{add-one}
use native.Mathlib.Omega.{arith}
use Rattle.gateway.specs.Request.{found_from, found}
use Rattle.gateway.proofs.RequestLaws.{found_here, found-next}
use Rattle.gateway.proofs.requesting.find.Goals as goal

pub loop-i-init : goal.loop-i-init
unfolding found
loop-i-init c = rw sub-zero

pub returns-then-equal : goal.returns-then-equal
returns-then-equal c =
    let a = c.args in
    let here = found_here a.rights.now a.names.now a.name.now a.rights.now.hosts c.loop-i.i (omega arith) (sym (rw c.name_at.ensures at c.equal.ensures) ∙ c.if-equal.true) in
    rw (← c.loop-i.invariant, here, add-one)

pub loop-i-preserved : goal.loop-i-preserved
loop-i-preserved c =
    found-next _ _ _ _ _ (omega arith) (sym (rw c.name_at.ensures at c.equal.ensures) ∙ c.if-equal.false) ∙ c.loop-i.invariant

pub returns : goal.returns
unfolding found_from
returns c =
    let e : c.args.rights.now.hosts - c.loop-i.i ≡ 0 = omega arith in rw (← c.loop-i.invariant, e)
