-- `gcm::gctr::crypt` meets its contract. The invariant: of the room's text the first i blocks are done, and c counts on from n.
use mathlib.Core.Path.{◌≡◌}
use Prim.Native.Nat.{◌+◌, ◌%◌, ◌^◌}
use lib.ListN.{length}
use Rattle.aes.specs.Prepared.{under}
use Rattle.gcm.specs.Gcm.{counter}
use Rattle.gcm.proofs.GctrLaws.{done}
use Rattle.gcm.proofs.gctr.crypt.Given as goal

abbrev pub invariant-loop-i : goal.invariant-loop-i
invariant-loop-i l = record {
  long : length l.room ≡ length l.initial.room;
  text : l.room ≡ done (under l.p) (counter l.iv l.n) l.initial.room l.i;
  counted : l.c ≡ (l.n + l.i) % 2 ^ 32;
}
