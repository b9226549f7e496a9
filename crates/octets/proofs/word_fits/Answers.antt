-- `octets::word_fits` meets its contract: a shift is a division by a power of two, and every word is below 2 ^ 64.
use mathlib.Core.Path.{sym, ◌∙◌}
use native.Mathlib.Omega.{arith}
use borrow.Author.Tests.{le-leb}
use Rattle.octets.proofs.RangeLaws.{shifted, all-bits}
use Rattle.octets.proofs.word_fits.Goals as goal

pub returns-then-c-ge64 : goal.returns-then-c-ge64
returns-then-c-ge64 c = let a = c.args in le-leb 64 a.c (omega arith) ∙ sym (all-bits a.word 64 a.c c.ranges.word.fits (omega arith))

pub returns-else-c-ge64 : goal.returns-else-c-ge64
returns-else-c-ge64 c = let a = c.args in shifted a.word a.c
