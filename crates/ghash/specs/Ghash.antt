-- SP 800-38D, section 6.4: GHASH, and the blocks that section 7.1 hands it.
use Rattle.std.specs.Prelude.{ℕ, zero, suc, ◌+◌, ◌*◌, ◌/◌, ◌%◌, ◌^◌, List, [], ◌∷◌, ◌++◌, length}
use Rattle.std.specs.Int.Bits.{bit_xor}
use Rattle.ghash.specs.Field.{dot}
use Rattle.ghash.specs.Bytes.{num_at, bytes_of}

-- how many blocks n bytes make, the last of them perhaps in part
unfoldable pub blocks_in : ℕ → ℕ
blocks_in n = (n + 15) / 16

-- n blocks of s, from block i on
unfoldable pub blocks_from : List ℕ → ℕ → ℕ → List ℕ
blocks_from s i zero = []
blocks_from s i (suc n) = num_at s (16 * i) 16 ∷ blocks_from s (suc i) n

-- the blocks of s ‖ 0^v, v the least that makes whole blocks
unfoldable pub padded : List ℕ → List ℕ
padded s = blocks_from s 0 (blocks_in (length s))

-- algorithm 2, step 3: from Y on, Y_i = (Y_i-1 ⊕ X_i) • H for each block X_i
unfoldable pub ghash_from : ℕ → ℕ → List ℕ → ℕ
ghash_from h y [] = y
ghash_from h y (x ∷ xs) = ghash_from h (dot (bit_xor y x) h) xs

-- algorithm 2: GHASH_H (X_1 ‖ .. ‖ X_m), from Y_0 = 0^128
unfoldable pub ghash : ℕ → List ℕ → ℕ
ghash h xs = ghash_from h 0 xs

-- [len (S)]_64, in bits. The standard's bounds are below 2^64 bits for A and below 2^39 - 255 bits for the text
abbrev pub len_bits : List ℕ → ℕ
len_bits s = 8 * length s % 2 ^ 64

-- section 7.1, step 5: S = GHASH_H (A ‖ 0^v ‖ C ‖ 0^u ‖ [len (A)]_64 ‖ [len (C)]_64), of the subkey's sixteen bytes h
unfoldable pub hash_of : List ℕ → List ℕ → List ℕ → List ℕ
hash_of h a c = bytes_of (ghash (num_at h 0 16) (padded a ++ padded c ++ (len_bits a * 2 ^ 64 + len_bits c) ∷ [])) 16
