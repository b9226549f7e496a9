-- `ghash::field::add` meets its contract: the mask keeps v or clears it.
use mathlib.Core.Path.{ap, ◌∙◌}
use lib.Bits.{bit_xor, bit_and}
use Rattle.ghash.proofs.WordLaws.{both, add_masked}
use Rattle.ghash.proofs.field.add.Goals as goal

pub returns : goal.returns
returns c =
    let a = c.args in
    ap (λ n. bit_xor a.z (bit_and a.v (both n))) c.from-half.ensures ∙ add_masked a.b a.z a.v c.requires c.ranges.v.fits
