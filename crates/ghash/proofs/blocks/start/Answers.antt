-- `ghash::blocks::start` meets its contract: one to four bytes make one block, and what follows its first 32 bits is padding.
use mathlib.Core.Path.{sym, ap, ◌∙◌}
use Prim.Native.Nat.{◌%◌, ◌^◌}
use native.Mathlib.Omega.{arith}
use Rattle.ghash.specs.Field.{dot}
use Rattle.ghash.proofs.GhashLaws.{short-block, short-hash}
use Rattle.ghash.proofs.blocks.start.Goals as goal

pub mul-requires : goal.mul-requires
mul-requires c = let s = c.args.s.now in record {
  four = omega arith;
  rest = ap (λ b. b % 2 ^ 96) c.block.ensures ∙ short-block s (omega arith);
}

pub returns-then-s-lt5 : goal.returns-then-s-lt5
returns-then-s-lt5 c =
    let a = c.args in
    let s = a.s.now in
    c.mul.ensures ∙ ap (λ b. dot b a.h) c.block.ensures ∙ sym (short-hash a.h s (omega arith) (omega arith))
