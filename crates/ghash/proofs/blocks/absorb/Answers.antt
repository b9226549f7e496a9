use mathlib.Core.Path.{◌≡◌, sym, ap, ◌∙◌}
use mathlib.Core.List.{◌++◌}
use Prim.Native.Nat.{min, ◌<◌}
use lib.Bits.{bit_xor}
use lib.ListN.{length}
use Rattle.ghash.specs.Field.{dot}
use Rattle.ghash.specs.Ghash.{padded, ghash_from}
use Rattle.ghash.proofs.GhashLaws.{absorb-part, absorb-none}
use Rattle.ghash.proofs.blocks.absorb.Goals as goal

pub loop-part-preserved : goal.loop-part-preserved
loop-part-preserved c =
    let h = c.args.h in
    let y = c.loop-part.y in
    let i = c.loop-part.invariant in
    let x = c.in-Some.part.now in
    let r = c.next.new.self.rest.now in
    let e = c.in-Some.ensures.steps in
    let long : length x ≡ min 16 (length (x ++ r)) = rw (i.0, e.1.0) at e.1.1 in
    let some : 0 < length (x ++ r) = rw e.1.0 at e.1.2 in (
      e.0 ∙ i.0,
      ap (λ n. ghash_from h n (padded r)) (c.mul-y.ensures ∙ ap (λ b. dot (bit_xor y b) h) c.block.ensures)
          ∙ sym (absorb-part h y x r long some)
          ∙ ap (λ l. ghash_from h y (padded l)) (sym e.1.0)
          ∙ i.1,
    )

pub returns : goal.returns
returns c =
    let l = c.loop-part in
    sym (absorb-none c.args.h l.y l.part-iterator.rest.now c.in-None.ensures.steps.1.0) ∙ l.invariant.1
