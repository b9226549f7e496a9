-- `columns::times_x` meets its contract: neither product fills more than the word, and the bytes are those of the law.
use native.Mathlib.Omega.{arith}
use lib.Bits.{and_le_r}
use Rattle.aes.proofs.WordLaws.{times-x-bytes}
use Rattle.aes.proofs.columns.times_x.Goals as goal

pub overflow_mul-result : goal.overflow_mul-result
overflow_mul-result c = omega (arith, and_le_r c.args.w 0x7f7f7f7f)

pub overflow_mul-result-2 : goal.overflow_mul-result-2
overflow_mul-result-2 c = omega (arith, and_le_r c.args.w 0x80808080)

pub returns : goal.returns
returns c = times-x-bytes c.args.w
