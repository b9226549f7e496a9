-- `columns::mix` meets its contract: the words that are summed have the bytes of the terms of the product.
use native.Mathlib.Omega.{arith}
use lib.Bits.{bit_xor, xor_lt}
use Rattle.aes.proofs.WordLaws.{turned, turned-twice, mix-bytes}
use Rattle.aes.proofs.columns.mix.Goals as goal

pub returns : goal.returns
returns c =
    let w = c.args.w in
    let x = c.times_x.result in
    let z = c.rotate_right.result in
    let small = xor_lt 32 w (bit_xor x z) (omega arith) (xor_lt 32 x z (omega arith) (omega arith)) in
    mix-bytes w x z _ c.times_x.ensures
    (turned-twice z w (omega arith) c.rotate_right.ensures)
    (turned _ (bit_xor w (bit_xor x z)) small c.rotate_right-2.ensures)
