use mathlib.Core.Path.{◌≡◌, refl, ◌∙◌}
use Prim.Native.Nat.{ℕ, ◌+◌, ◌≤◌, ◌<◌}
use native.Mathlib.Numerals.{add-one}
use native.Mathlib.Omega.{arith}
use Rattle.layout.specs.Layout as L
use Rattle.book.specs.States.{laid}
use Rattle.book.specs.Columns as C
use Rattle.book.proofs.FillLaws.{length-collect, fill_none, laid_more}
use Rattle.book.proofs.entries.entry_rows.Goals as goal

pub loop-k-init : goal.loop-k-init
unfolding C.collect laid
loop-k-init c = (refl, refl, fill_none 128, fill_none 128)

pub put_entries-requires : goal.put_entries-requires
put_entries-requires c =
    let e = c.requires.2 c.loop-k.k c.loop-k-test.true in
    omega (arith, e, c.entries.ensures, c.loop-k.invariant)

pub loop-k-preserved : goal.loop-k-preserved
loop-k-preserved c =
    let a = c.args in
    let b = a.book.now in
    let k = c.loop-k.k in
    let few : (j : ℕ) → j < k + 1 → L.entries b (a.h + j) ≤ 16 = λ j q. c.requires.2 j (omega arith) in (
      c.put_entries.auto.words ∙ c.loop-k.invariant.0,
      c.put_entries.auto.owners ∙ c.loop-k.invariant.1,
      c.put_entries.ensures.0
          ∙ rw (c.from.ensures, c.entries.ensures, c.loop-k.invariant.2, add-one)
          (laid_more 16 (C.words b) 128 a.h k (omega arith) (λ j q. rw length-collect (few j (omega arith)))),
      c.put_entries.ensures.1
          ∙ rw (c.from.ensures, c.entries.ensures, c.loop-k.invariant.3, add-one)
          (laid_more 16 (C.owners b) 128 a.h k (omega arith) (λ j q. rw length-collect (few j (omega arith)))),
    )

pub returns : goal.returns
returns c =
    let a = c.args in
    let e : c.loop-k.k ≡ a.m = omega arith in
    (rw e at c.loop-k.invariant.2, rw e at c.loop-k.invariant.3)
