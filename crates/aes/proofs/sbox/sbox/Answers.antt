-- `sbox::sbox` meets its contract: the static is the table, entry for entry.
use borrow.Author.Rules.{rules}
use Rattle.aes.specs.Sbox.{sbox, table}
use Rattle.aes.proofs.sbox.sbox.Goals as goal

pub returns : goal.returns
unfolding sbox table
returns c = search rules
