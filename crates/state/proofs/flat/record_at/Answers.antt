-- `state::record_at` meets its contract.
use mathlib.Core.Path.{◌∙◌}
use Prim.Native.Nat.{◌*◌}
use native.Mathlib.Omega.{arith}
use borrow.Author.Tests.{lt-ltb}
use Rattle.octets.proofs.RoomLaws.{filled-there}
use Rattle.state.specs.Flat.{record_of}
use Rattle.state.proofs.flat.record_at.Goals as goal

pub returns : goal.returns
unfolding record_of
returns c =
    let s = c.args.records in
    let at = c.args.i * 16 in
    rw (
      lt-ltb _ 32 c.if-i-ge32.false,
      c.from_numbers.ensures,
      c.bytes_at.ensures ∙ filled-there 16 s.challenges at (omega arith),
      c.bytes_at-2.ensures ∙ filled-there 16 s.keys at (omega arith),
    )
