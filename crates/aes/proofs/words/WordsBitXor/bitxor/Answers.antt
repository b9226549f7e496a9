-- The sum of two `Words` meets its contract: the bytes of an exclusive or are the exclusive ors of the bytes.
use mathlib.Core.List.{◌++◌}
use Rattle.aes.proofs.WordLaws.{xor_bytes}
use Rattle.aes.proofs.words.WordsBitXor.bitxor.Goals as goal

pub returns : goal.returns
returns c =
    let s = c.args.self in
    let k = c.args.k in
    λ t. xor_bytes s.a k.a t ++ xor_bytes s.b k.b t ++ xor_bytes s.c k.c t ++ xor_bytes s.d k.d t
