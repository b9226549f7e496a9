-- `packet::sealed::put_all` meets its contract. The invariant: the pieces so far stand in the room, and the next one's place is after them.
use mathlib.Core.Path.{◌≡◌}
use Prim.Native.Nat.{◌+◌}
use lib.ListN.{length, take}
use Rattle.std.specs.List.{flat_map}
use Rattle.octets.specs.Room.{placed}
use Rattle.packet.proofs.sealed.put_all.Given as goal

abbrev pub invariant-loop-piece : goal.invariant-loop-piece
invariant-loop-piece l =
    let so_far = flat_map (λ x. x.now) (take l.piece-index l.pieces) in
    record {
      there : l.room ≡ placed l.initial.room l.fn.at so_far;
      next : l.at ≡ l.fn.at + length so_far;
    }
