use Rattle.std.proofs.Common.{◌≡◌, length, add-one, refl, ◌∙◌, arith}
use Rattle.book.specs.States.{laid}
use Rattle.book.specs.Columns.{collect}
use Rattle.book.proofs.FillLaws.{fill_none, row_fits, laid-put}
use Rattle.book.proofs.tables.put_strings.Goals as goal

pub loop-k-init : goal.loop-k-init
unfolding laid collect
loop-k-init g c = (refl, λ x post s. c.requires.1 ∙ fill_none (length c.args.out.now))

pub overflow_mul-w : goal.overflow_mul-w
overflow_mul-w g c = rw c.from.ensures (omega (arith, row_fits c.args.w c.loop-k.k c.args.m (length c.args.out.now) c.loop-k-test.true c.requires.0))

pub loop-k-preserved : goal.loop-k-preserved
loop-k-preserved g c = (
  c.put.auto.room ∙ c.loop-k.invariant.0,
  λ x post s.
      let k = c.loop-k.k in
      let h = row_fits c.args.w k c.args.m (length c.args.out.now) c.loop-k-test.true c.requires.0 in
      let e = post k c.f.result (omega arith) c.f.ensures in
      let d = c.loop-k.invariant.1 x (λ j r l p. post j r (omega arith) p) (λ j l. s j (omega arith)) in
      c.put.ensures
      ∙ rw (c.from.ensures, e, d, add-one) (laid-put c.args.w x (length c.args.out.now) c.args.from k h (λ j l. s j (omega arith))),
)

pub returns : goal.returns
returns g c =
    let e : c.loop-k.k ≡ c.args.m = omega arith in
    rw e at c.loop-k.invariant.1
