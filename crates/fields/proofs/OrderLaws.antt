-- What a command's first 64 bytes say is what its whole text says.
use mathlib.Core.Path.{◌≡◌, sym, ◌∙◌}
use mathlib.Core.List.{List}
use Prim.Native.Nat.{ℕ, ◌+◌, ◌*◌, ◌≤◌}
use native.Mathlib.Omega.{arith}
use lib.ListN.{length, get_or, take, drop}
use lib.Seq.{take-take, drop-drop}
use Rattle.octets.specs.Room.{part, number_at, filled}
use Rattle.octets.proofs.LittleLaws.{number-part-split, number-byte}
use Rattle.octets.proofs.RoomLaws.{part-take}
use Rattle.capability.specs.Bytes.{word_at}
use Rattle.fields.specs.Command.{order_of}

-- three bytes as two and one
pub three-at : (t : List ℕ) (at : ℕ) → number_at t at 3 ≡ number_at t at 2 + number_at t (at + 2) 1 * 65536
three-at t at = number-part-split 2 1 (drop at t) ∙ rw (drop-drop 2 at t) (omega arith)

-- three bytes, each for itself
pub three_bytes : (t : List ℕ) (at : ℕ) → at + 3 ≤ length t
    → get_or t at 0 + get_or t (at + 1) 0 * 256 + get_or t (at + 2) 0 * 65536 ≡ number_at t at 3
three_bytes t at h =
    let two : number_at t at 2 ≡ number_at t at 1 + number_at t (at + 1) 1 * 256 = number-part-split 1 1 (drop at t) ∙ rw (drop-drop 1 at t) (omega arith) in
    omega (
      arith,
      three-at t at,
      number-byte t at (omega arith),
      number-byte t (at + 1) (omega arith),
      number-byte t (at + 2) (omega arith),
    )

part-head : (n at size : ℕ) (t : List ℕ) → at + size ≤ n → part (take n t) at size ≡ part t at size
part-head n at size t h = rw (part-take at size (take n t), take-take (at + size) n t h) (sym (part-take at size t))

pub order-head : (t : List ℕ) → order_of (take 64 t) ≡ order_of t
unfolding order_of word_at filled
order-head t =
    rw (
      part-head 64 0 2 t (omega arith),
      part-head 64 2 2 t (omega arith),
      part-head 64 4 2 t (omega arith),
      part-head 64 6 2 t (omega arith),
      part-head 64 8 2 t (omega arith),
      part-head 64 10 2 t (omega arith),
      part-head 64 12 1 t (omega arith),
      part-head 64 13 3 t (omega arith),
      part-head 64 16 8 t (omega arith),
      part-head 64 24 8 t (omega arith),
      part-head 64 32 8 t (omega arith),
      part-head 64 40 8 t (omega arith),
      part-head 64 48 16 t (omega arith),
    )
