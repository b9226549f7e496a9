-- The round keys, each from the one before it, put behind it and read there; and one round more.
use mathlib.Core.Path.{◌≡◌, ap, ap₂, sym, ◌∙◌}
use mathlib.Core.List.{List, [], ◌∷◌, ◌++◌}
use Prim.Native.Nat.{ℕ, suc, ◌+◌, ◌-◌, ◌*◌, ◌<◌, ◌≤◌}
use native.Mathlib.Nat.{add_assoc}
use native.Mathlib.Numerals.{add-one}
use native.Mathlib.Omega.{arith}
use lib.Bits.{bit_xor}
use lib.ListN.{length, get_or, take, drop}
use borrow.Rule.Slice.PartMut.{put_mid}
use Rattle.std.proofs.lemmas.List.{get_or-take, get_or-drop}
use Rattle.std.proofs.lemmas.Slice.{take-put_mid}
use Rattle.aes.specs.Field.{xtimes}
use Rattle.aes.specs.KeyExpansion.{rot_word, sub_word, next_key, round_key, power}
use Rattle.aes.specs.Cipher.{sub_bytes, shift_rows, mix_columns, add_round_key, round_of, rounds}
use Rattle.aes.specs.Prepared.{keys, key_at}
use Rattle.aes.specs.Words.{bytes_of}
use Rattle.aes.proofs.ListLaws.{firsts_same, sixteen}
use Rattle.aes.proofs.WordLaws.{xor_word, xtimes_word, xor_bytes, small, is-small}

-- the next round key after the words a b c d, where q is d turned and s is q through the S-box
pub next-bytes : (a b c d q s rc : ℕ) → rc < 256 → bytes_of q ≡ rot_word (bytes_of d) → bytes_of s ≡ sub_word (bytes_of q)
    → bytes_of (bit_xor a (bit_xor s rc))
    ++ bytes_of (bit_xor b (bit_xor a (bit_xor s rc)))
    ++ bytes_of (bit_xor c (bit_xor b (bit_xor a (bit_xor s rc))))
    ++ bytes_of (bit_xor d (bit_xor c (bit_xor b (bit_xor a (bit_xor s rc)))))
    ≡ next_key rc (bytes_of a ++ bytes_of b ++ bytes_of c ++ bytes_of d)
unfolding next_key
next-bytes a b c d q s rc h hq hs =
    let turned : bytes_of s ≡ sub_word (rot_word (bytes_of d)) = hs ∙ ap sub_word hq in
    let first = xor_bytes a (bit_xor s rc) ∙ ap (xor_word (bytes_of a)) (xor_bytes s rc ∙ ap₂ xor_word turned (small rc h)) in
    let second = xor_bytes b _ ∙ ap (xor_word (bytes_of b)) first in
    let third = xor_bytes c _ ∙ ap (xor_word (bytes_of c)) second in
    let fourth = xor_bytes d _ ∙ ap (xor_word (bytes_of d)) third in
    λ t. first t ++ second t ++ third t ++ fourth t

-- the four bytes at j of a prepared key
abbrev word_at : List ℕ → ℕ → List ℕ
word_at p j = get_or p j 0 ∷ get_or p (j + 1) 0 ∷ get_or p (j + 2) 0 ∷ get_or p (j + 3) 0 ∷ []

word_on : (p : List ℕ) (j k : ℕ) → word_at p (j + k) ≡ get_or p (j + k) 0 ∷ get_or p (j + (k + 1)) 0 ∷ get_or p (j + (k + 2)) 0 ∷ get_or p (j + (k + 3)) 0 ∷ []
word_on p j k = λ t. get_or p (j + k) 0 ∷ get_or p (add_assoc j k 1 t) 0 ∷ get_or p (add_assoc j k 2 t) 0 ∷ get_or p (add_assoc j k 3 t) 0 ∷ []

-- sixteen bytes of a prepared key, read where round key i is
pub key-read : (p x : List ℕ) (i n : ℕ) → length x ≡ 16 → x ≡ take n (drop (16 * i) p) → n ≡ 16 → x ≡ key_at p i
key-read p x i n l e h =
    let byte : (j : ℕ) → j < 16 → get_or x j 0 ≡ get_or p (16 * i + j) 0 = λ j k.
    ap (λ (y : List ℕ). get_or y j 0) e ∙ get_or-take n (drop (16 * i) p) j 0 (omega arith) ∙ get_or-drop (16 * i) p j 0 in
    sym (sixteen x l) ∙ firsts_same (λ (j : ℕ). get_or x j 0) (λ (j : ℕ). get_or p (16 * i + j) 0) 16 byte

-- round key i is put behind those before it
pub key-put : (key p x : List ℕ) (i k : ℕ) → take (16 * i) p ≡ keys key i → 16 * i ≤ length p → length x ≡ 16 → x ≡ round_key key i
    → take (16 * (i + 1)) (put_mid (16 * i) k p x) ≡ keys key (i + 1)
unfolding keys
key-put key p x i k e h n q =
    take-put_mid (16 * i) k p x (16 * (i + 1)) (omega arith) h
    ∙ ap₂ (λ (y z : List ℕ). y ++ z) e q
    ∙ ap (keys key) (sym (add-one i))

-- the round key after it, and the power after it
pub key-next : (key k : List ℕ) (rc i : ℕ) → k ≡ round_key key i → rc ≡ power i → next_key rc k ≡ round_key key (i + 1)
unfolding round_key
key-next key k rc i e q = ap₂ next_key q e ∙ ap (round_key key) (sym (add-one i))

pub power-next : (rc r i : ℕ) → rc ≡ power i → rc < 256 → r < 4294967296 → bytes_of r ≡ xtimes_word (bytes_of rc)
    → (r ≡ power (i + 1)) × (r < 256)
unfolding power
power-next rc r i e h n q =
    let one : (r ≡ xtimes rc) × (r < 256) = is-small r (xtimes rc) n (q ∙ ap xtimes_word (small rc h)) in
    (one.0 ∙ ap xtimes e ∙ ap power (sym (add-one i)), one.1)

-- a round more: round i after i - 1
pub round-step : (p b s k t : List ℕ) (i : ℕ) → 1 ≤ i → s ≡ rounds (key_at p) (i - 1) b → k ≡ key_at p i
    → t ≡ add_round_key (mix_columns (shift_rows (sub_bytes s))) k → t ≡ rounds (key_at p) (i + 1 - 1) b
unfolding rounds round_of
round-step p b s k t i h es ek et =
    let this : i ≡ suc (i - 1) = omega arith in
    let next : suc (i - 1) ≡ i + 1 - 1 = omega arith in
    et ∙ ap₂ round_of es (ek ∙ ap (key_at p) this) ∙ ap (λ (m : ℕ). rounds (key_at p) m b) next
