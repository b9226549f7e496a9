-- The 0s that `num_at` reads past the end are the padding of section 7.1, steps 4 and 5: with the 0s written out, fewer than 16, the
-- string is whole blocks, and the same blocks. By induction on the string, the bytes and the blocks.
use mathlib.Core.Path.{◌≡◌, refl, ap, ap₂, ◌∙◌}
use mathlib.Core.List.{List, [], ◌∷◌, ◌++◌}
use Prim.Native.Nat.{ℕ, zero, suc, ◌+◌, ◌*◌, ◌-◌, ◌<◌}
use native.Mathlib.Omega.{arith}
use lib.ListN.{length, get_or, replicate, length-append, length-replicate}
use Rattle.octets.proofs.RoomLaws.{get_or-zeros}
use Rattle.ghash.specs.Bytes.{num_at}
use Rattle.ghash.specs.Ghash.{blocks_in, blocks_from, padded}

get_or-pad : (s : List ℕ) (m i : ℕ) → get_or (s ++ replicate m 0) i 0 ≡ get_or s i 0
get_or-pad [] m i = get_or-zeros m i
get_or-pad (x ∷ s) m zero = refl
get_or-pad (x ∷ s) m (suc i) = get_or-pad s m i

num-pad : (s : List ℕ) (m at k : ℕ) → num_at (s ++ replicate m 0) at k ≡ num_at s at k
unfolding num_at
num-pad s m at zero = refl
num-pad s m at (suc k) = ap₂ (λ (x y : ℕ). x * 256 + y) (num-pad s m at k) (get_or-pad s m (at + k))

pub blocks-pad : (s : List ℕ) (m i n : ℕ) → blocks_from (s ++ replicate m 0) i n ≡ blocks_from s i n
unfolding blocks_from
blocks-pad s m i zero = refl
blocks-pad s m i (suc n) = ap₂ (λ (x : ℕ) (l : List ℕ). x ∷ l) (num-pad s m (16 * i) 16) (blocks-pad s m (suc i) n)

whole : (n : ℕ) → blocks_in (16 * n) ≡ n
unfolding blocks_in
whole n = omega arith

-- how many 0s make whole blocks of n bytes
unfoldable pub lacking : ℕ → ℕ
lacking n = 16 * blocks_in n - n

pub lacking-lt : (n : ℕ) → lacking n < 16
unfolding lacking blocks_in
lacking-lt n = omega arith

pub length-pad : (s : List ℕ) → length (s ++ replicate (lacking (length s)) 0) ≡ 16 * blocks_in (length s)
unfolding lacking blocks_in
length-pad s = length-append s (replicate (lacking (length s)) 0) ∙ simp length-replicate (omega arith)

pub padded-pad : (s : List ℕ) → padded (s ++ replicate (lacking (length s)) 0) ≡ padded s
unfolding padded
padded-pad s =
    let z : List ℕ = replicate (lacking (length s)) 0 in
    ap (λ (n : ℕ). blocks_from (s ++ z) 0 n) (ap blocks_in (length-pad s) ∙ whole (blocks_in (length s))) ∙ blocks-pad s (lacking (length s)) 0 (blocks_in (length s))
