-- `u16::at` meets its contract: the bytes that aren't there count as 0 in the number too.
use Rattle.std.specs.Int.{w16}
use Rattle.octets.proofs.WidthLaws.{number_read}
use Rattle.octets.proofs.U16Little.at.Goals as goal

pub returns : goal.returns
returns c = let a = c.args in number_read w16 a.s.now a.at c.bytes_at.ensures c.from_le_bytes.ensures
