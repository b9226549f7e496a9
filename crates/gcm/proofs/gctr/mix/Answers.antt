use borrow.Author.Rules.{rules}
use mathlib.Core.Path.{◌≡◌, sym, ap, ◌∙◌}
use mathlib.Core.List.{List}
use Prim.Native.Nat.{ℕ}
use native.Mathlib.Numerals.{add-one}
use native.Mathlib.Omega.{arith}
use lib.Bits.{bit_xor}
use lib.ListN.{length, set, get_or}
use Rattle.gcm.proofs.XorsLaws.{half, half_more, half_all}
use Rattle.gcm.proofs.gctr.mix.Goals as goal

pub loop-j-preserved : goal.loop-j-preserved
loop-j-preserved c =
    let a = c.args in
    let j = c.loop-j.j in
    let e : length a.ks ≡ 16 = search rules in
    ap (λ (d : List ℕ). set d j (bit_xor (get_or d j 0) (get_or a.ks j 0))) c.loop-j.invariant
    ∙ half_more a.x.now a.ks j (omega arith) (omega arith)
    ∙ ap (half a.x.now a.ks) (sym (add-one j))

pub returns : goal.returns
returns c =
    let a = c.args in
    let e : length a.ks ≡ 16 = search rules in
    c.loop-j.invariant ∙ half_all a.x.now a.ks c.loop-j.j (omega arith) (omega arith)
