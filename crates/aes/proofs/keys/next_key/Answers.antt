-- `keys::next_key` meets its contract: each word is the one before it, added to the word above it.
use native.Mathlib.Omega.{arith}
use Rattle.aes.proofs.KeyLaws.{next-bytes}
use Rattle.aes.proofs.WordLaws.{turned}
use Rattle.aes.proofs.keys.next_key.Goals as goal

pub returns : goal.returns
returns c =
    let a = c.args in
    next-bytes a.k.a a.k.b a.k.c a.k.d _ _ a.rc c.requires
    (turned _ a.k.d (omega arith) c.rotate_right-w.ensures)
    c.sub_bytes.ensures
