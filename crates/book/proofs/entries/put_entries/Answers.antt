use mathlib.Core.Path.{◌≡◌, refl, ◌∙◌}
use native.Mathlib.Numerals.{add-one}
use native.Mathlib.Omega.{arith}
use lib.ListN.{length-set}
use lib.Seq.{paste-zero}
use Rattle.layout.specs.Layout.{word, owner}
use Rattle.book.specs.Columns.{collect}
use Rattle.book.proofs.FillLaws.{paste_more, paste_all}
use Rattle.book.proofs.entries.put_entries.Goals as goal

pub loop-j-init : goal.loop-j-init
loop-j-init c =
    let a = c.args in
    let b = a.book.now in (
      refl,
      refl,
      paste-zero a.words.now a.at (collect (word b a.i) 0 a.e),
      paste-zero a.owners.now a.at (collect (owner b a.i) 0 a.e),
    )

pub loop-j-preserved : goal.loop-j-preserved
loop-j-preserved c =
    let a = c.args in
    let b = a.book.now in
    let j = c.loop-j.j in (
      simp length-set c.loop-j.invariant.0,
      simp length-set c.loop-j.invariant.1,
      rw (c.from.ensures, c.word.ensures, c.loop-j.invariant.2, add-one) (paste_more (word b a.i) a.words.now a.at a.e j (omega arith) (omega arith)),
      rw (c.from-in-loop-j.ensures, c.owner.ensures, c.loop-j.invariant.3, add-one) (paste_more (owner b a.i) a.owners.now a.at a.e j (omega arith) (omega arith)),
    )

pub returns : goal.returns
returns c =
    let a = c.args in
    let b = a.book.now in
    let e : c.loop-j.j ≡ a.e = omega arith in (
      rw e at c.loop-j.invariant.2 ∙ paste_all (word b a.i) a.words.now a.at a.e,
      rw e at c.loop-j.invariant.3 ∙ paste_all (owner b a.i) a.owners.now a.at a.e,
    )
