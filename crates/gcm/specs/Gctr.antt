-- SP 800-38D, sections 6.2 and 6.5: inc_32 and GCTR, on bytes. CIPH_K is given as a function of a block, `ciph`,
-- that gives sixteen bytes for each block: the laws ask for it, and of AES it is `cipher-length`.
use Rattle.std.specs.Prelude.{ℕ, zero, suc, ◌+◌, ◌%◌, ◌^◌, List, [], ◌∷◌, ◌++◌, length, take}
use Rattle.std.specs.Int.Bits.{bit_xor}
use Rattle.ghash.specs.Bytes.{num_at, bytes_of}
use Rattle.ghash.specs.Ghash.{blocks_in}

-- section 6.2: inc_32 (X) = MSB_96 (X) ‖ [int (LSB_32 (X)) + 1 mod 2^32]_32
unfoldable pub inc32 : List ℕ → List ℕ
inc32 x = take 12 x ++ bytes_of ((num_at x 12 4 + 1) % 2 ^ 32) 4

-- algorithm 3, steps 4 and 5: CB_1 = ICB, CB_i = inc_32 (CB_i-1), n of them
unfoldable pub counters : List ℕ → ℕ → List (List ℕ)
counters cb zero = []
counters cb (suc n) = cb ∷ counters (inc32 cb) n

-- CIPH_K of each block, one after the other
unfoldable pub stream : (List ℕ → List ℕ) → List (List ℕ) → List ℕ
stream ciph [] = []
stream ciph (b ∷ bs) = ciph b ++ stream ciph bs

-- X ⊕ MSB_len(X) (S)
unfoldable pub xors : List ℕ → List ℕ → List ℕ
xors [] s = []
xors (x ∷ xs) [] = []
xors (x ∷ xs) (s ∷ ss) = bit_xor x s ∷ xors xs ss

-- bytes, and the blocks that were enciphered on the way, in order
pub record Out : Type 0 where
  pub bytes : List ℕ
  pub enciphered : List (List ℕ)

-- algorithm 3: GCTR_K (ICB, X)
unfoldable pub gctr : (List ℕ → List ℕ) → List ℕ → List ℕ → Out
gctr ciph icb x =
    let cbs : List (List ℕ) = counters icb (blocks_in (length x)) in
    record { bytes = xors x (stream ciph cbs); enciphered = cbs }
