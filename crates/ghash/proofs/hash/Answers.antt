-- `ghash::hash` meets its contract: the hash of a string of blocks is taken in parts, by what the called functions ensure.
use mathlib.Core.Path.{◌≡◌, sym, ◌∙◌}
use mathlib.Core.List.{List}
use Prim.Native.Nat.{ℕ, ◌*◌, ◌%◌, ◌^◌, ◌<◌}
use native.Mathlib.Omega.{arith}
use lib.Bits.{bit_xor, bit_or}
use Rattle.ghash.specs.Field.{dot}
use Rattle.ghash.specs.Bytes.{num_at, bytes_of}
use Rattle.ghash.specs.Ghash.{padded, ghash_from, len_bits, hash_of}
use Rattle.ghash.proofs.WordLaws.{two-words}
use Rattle.ghash.proofs.GhashLaws.{big_bytes, hash-parts}
use Rattle.ghash.proofs.hash.Goals as goal

-- what the calls give, one after the other
in_parts : (h a c : List ℕ) (k y z m n p : ℕ) → k ≡ num_at h 0 16 → y ≡ ghash_from k 0 (padded a) → z ≡ ghash_from k y (padded c) →
    m ≡ len_bits a → n ≡ len_bits c → p ≡ dot (bit_xor z (bit_or (m * 2 ^ 64 % 2 ^ 128) n)) k → bytes_of p 16 ≡ hash_of h a c
in_parts h a c k y z m n p ek ey ez em en ep =
    let hm : m < 2 ^ 64 = omega arith in
    let hn : n < 2 ^ 64 = omega arith in
    rw (ep, two-words m n hm hn, em, en, ez, ey, ek) (sym (hash-parts h a c))

pub returns : goal.returns
returns c =
    let s = c.args in
    let p = c.mul.result in
    c.to_be_bytes.ensures
    ∙ big_bytes p
    ∙ in_parts s.h s.a.now s.c.now _ _ _ _ _ p c.block-k.ensures c.start.ensures c.absorb-y.ensures (c.from.ensures ∙ c.len_bits.ensures)
    (c.from-2.ensures ∙ c.len_bits-2.ensures) c.mul.ensures
