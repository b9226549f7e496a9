-- `u8::at` meets its contract: a part of one byte is that byte, or none where the slice has ended.
use mathlib.Core.Path.{sym}
use Rattle.octets.proofs.LittleLaws.{number-byte, number_past}
use Rattle.octets.proofs.U8Little.at.Goals as goal

pub returns-then-at-s : goal.returns-then-at-s
returns-then-at-s c = let a = c.args in sym (number-byte a.s.now a.at c.if-at-s.true)

pub returns-else-at-s : goal.returns-else-at-s
returns-else-at-s c = let a = c.args in sym (number_past a.s.now a.at 1 c.if-at-s.false)
