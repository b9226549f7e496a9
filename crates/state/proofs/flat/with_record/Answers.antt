-- `state::with_record` meets its contract.
use mathlib.Core.Path.{◌∙◌}
use Prim.Native.Nat.{◌*◌}
use native.Mathlib.Omega.{arith}
use borrow.Author.Tests.{lt-ltb}
use Rattle.octets.proofs.RoomLaws.{placed-fits}
use Rattle.state.specs.Flat.{with_record}
use Rattle.state.proofs.flat.with_record.Goals as goal

pub returns : goal.returns
unfolding with_record
returns c =
    let s = c.args.records in
    let r = c.args.new in
    let at = c.args.i * 16 in
    rw (
      lt-ltb _ 32 c.if-i-ge32.false,
      c.tag.ensures,
      c.last.ensures,
      c.put.ensures ∙ placed-fits s.challenges at r.challenge (omega arith),
      c.put-2.ensures ∙ placed-fits s.keys at r.key (omega arith),
    )
