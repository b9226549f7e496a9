use Rattle.std.proofs.Common.{◌≡◌, length-set, add-one, arith}
use Rattle.std.proofs.lemmas.List.{length-replicate}
use Rattle.book.specs.Columns.{collect}
use Rattle.book.proofs.FillLaws.{fill_none, fill-set}
use Rattle.book.proofs.tables.column.Goals as goal

pub loop-k-init : goal.loop-k-init
unfolding collect
loop-k-init g c = (length-replicate g.row.N 0, λ x post. fill_none g.row.N)

pub loop-k-preserved : goal.loop-k-preserved
loop-k-preserved g c = (
  simp length-set c.loop-k.invariant.0,
  λ x post.
      let k = c.loop-k.k in
      let e = post k c.f.result (omega arith) c.f.ensures in
      let d = c.loop-k.invariant.1 x (λ j r l p. post j r (omega arith) p) in
      rw (c.from.ensures, e, d, add-one) (fill-set x g.row.N c.args.from k (omega arith)),
)

pub returns : goal.returns
returns g c =
    let e : c.loop-k.k ≡ c.args.m = omega arith in
    rw e at c.loop-k.invariant.1
