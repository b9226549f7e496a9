-- `ghash::blocks::absorb` meets its contract: the steps over the blocks of what is left, from y, come to what all of them come to from the first y.
use Rattle.std.proofs.Common.{◌≡◌}
use Rattle.ghash.specs.Ghash.{padded, ghash_from}
use Rattle.ghash.proofs.blocks.absorb.Given as goal

abbrev pub invariant-loop-part : goal.invariant-loop-part
invariant-loop-part l =
    (l.part-iterator.size ≡ 16) × (ghash_from l.h l.y (padded l.part-iterator.rest.now) ≡ ghash_from l.h l.initial.y (padded l.s))
