use mathlib.Core.Path.{◌≡◌, sym, ap, ◌∙◌}
use Prim.Native.Nat.{ℕ, ◌<◌}
use mathlib.Core.List.{List}
use native.Mathlib.Nat.{zero-add}
use native.Mathlib.Numerals.{add-one}
use native.Mathlib.Omega.{arith}
use lib.ListN.{length, get_or, set, replicate, length-set, length-replicate}
use lib.Seq.{paste, paste-suc}
use Rattle.octets.specs.Room.{filled}
use Rattle.octets.proofs.RoomLaws.{filled-byte, length-filled, placed-fits, pasted}
use Rattle.octets.proofs.PlacedLaws.{placed-whole}
use Rattle.octets.proofs.WidthLaws.{number_one}
use Rattle.octets.proofs.padded.Goals as goal

pub loop-i-preserved : goal.loop-i-preserved
loop-i-preserved g c =
    let a = c.args in
    let i = c.loop-i.i in
    let n = g.row.N in
    let zeros : List ℕ = replicate n 0 in
    let bytes = filled n a.s.now 0 in
    let byte : c.at.result ≡ get_or bytes i 0 =
    c.at.ensures ∙ number_one a.s.now i ∙ sym (filled-byte n a.s.now i (omega arith)) in
    let here : i < length zeros = omega (arith, length-replicate {A = ℕ} n 0) in
    let there : i < length bytes = omega (arith, length-filled n a.s.now 0) in
    let next = paste-suc zeros 0 bytes i 0 (rw zero-add here) there in (
      simp length-set c.loop-i.invariant.0,
      rw (c.loop-i.invariant.1, byte, add-one) (ap (λ (k : ℕ). set (paste zeros 0 bytes i) k (get_or bytes i 0)) (sym (zero-add i)) ∙ next),
    )

pub returns : goal.returns
returns g c =
    let a = c.args in
    let n = g.row.N in
    let zeros : List ℕ = replicate n 0 in
    let bytes = filled n a.s.now 0 in
    let long = length-filled n a.s.now 0 in
    let whole : length bytes ≡ length zeros = omega (arith, long, length-replicate {A = ℕ} n 0) in
    let e : c.loop-i.i ≡ length bytes = omega (arith, long) in
    rw e at c.loop-i.invariant.1 ∙ pasted zeros 0 bytes ∙ sym (placed-fits zeros 0 bytes (omega (arith, whole))) ∙ placed-whole zeros bytes whole
