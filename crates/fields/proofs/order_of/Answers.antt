-- `fields::order_of` meets its contract: field by field.
use borrow.Author.Rules.{rules}
use mathlib.Core.Path.{◌≡◌}
use native.Mathlib.Omega.{arith}
use lib.ListN.{length}
use Rattle.octets.specs.Room.{number_at}
use Rattle.fields.specs.Command.{order_of}
use Rattle.fields.proofs.OrderLaws.{three_bytes}
use Rattle.fields.proofs.order_of.Goals as goal

pub returns : goal.returns
unfolding order_of
returns c =
    let t = c.args.text in
    let long : length t ≡ 64 = search rules in
    let zeros : c.from_le_bytes.result ≡ number_at t 13 3 = omega (arith, c.from_le_bytes.ensures, three_bytes t 13 (omega arith)) in
    cc
