use mathlib.Core.Path.{◌≡◌, sym, ap, ap₂, ◌∙◌}
use mathlib.Core.Bool.{◌&&◌}
use mathlib.Core.Logic.{inl, inr}
use native.Mathlib.Omega.{arith}
use lib.Dec.{eqb}
use lib.ListN.{length}
use Rattle.octets.specs.Same.{same}
use Rattle.octets.proofs.SameLaws.{differ_same, same_cons, same_nil}
use Rattle.octets.proofs.equal.Goals as goal

pub returns-then-a-b : goal.returns-then-a-b
returns-then-a-b c = let a = c.args in sym (differ_same a.a.now a.b.now (λ e. c.if-a-b.true (ap length e)))

pub loop-x-preserved : goal.loop-x-preserved
loop-x-preserved c =
    let e = c.in-Some.ensures.steps in
    let i = c.loop-x.invariant in
    let s = c.next.new.self in
    let d = c.loop-x.differ in (
      omega (arith, ap length e.0, ap length e.1),
      same_cons d c.in-Some.x.now c.in-Some.y.now s.a.rest.now s.b.rest.now ∙ ap₂ (λ p q. eqb d 0 && same p q) (sym e.0) (sym e.1) ∙ i.1,
    )

pub returns : goal.returns
returns c =
    let i = c.loop-x.invariant in
    let s = c.loop-x.x-iterator in
    let none : (length s.a.rest.now ≡ 0) × (length s.b.rest.now ≡ 0) =
    elim c.in-None.ensures.steps [ inl x ↦ (omega arith, omega arith) | inr x ↦ (omega arith, omega arith) ] in
    sym (same_nil c.loop-x.differ s.a.rest.now s.b.rest.now none.0 none.1) ∙ i.1
