-- `keys::expand` meets its contract. The loop's invariant: before turn i the first i round keys are there, k is the next one,
-- and rc is x^i, which is one byte.
use mathlib.Core.Path.{◌≡◌}
use Prim.Native.Nat.{◌*◌, ◌<◌}
use lib.ListN.{length, take}
use Rattle.aes.specs.KeyExpansion.{round_key, power}
use Rattle.aes.specs.Prepared.{keys}
use Rattle.aes.specs.Words.{bytes}
use Rattle.aes.proofs.keys.expand.Given as goal

abbrev pub invariant-loop-i : goal.invariant-loop-i
invariant-loop-i l = record {
  long : length l.p ≡ 176;
  keys_there : take (16 * l.i) l.p ≡ keys (bytes l.initial.k) l.i;
  next_key : bytes l.k ≡ round_key (bytes l.initial.k) l.i;
  constant : l.rc ≡ power l.i;
  one_byte : l.rc < 256;
}
