-- FIPS 197, section 5.1: CIPHER, for AES-128 (10 rounds).
use Rattle.std.specs.Prelude.{ℕ, zero, suc, ◌+◌, List}
use Rattle.std.specs.Int.Bits.{bit_xor}
use Rattle.aes.specs.Field.{◌•◌}
use Rattle.aes.specs.Sbox.{sbox}
use Rattle.aes.specs.State.{cell, state}
use Rattle.aes.specs.KeyExpansion.{round_key}

-- section 5.1.1
abbrev pub sub_bytes : List ℕ → List ℕ
sub_bytes s = state (λ r c. sbox (cell s r c))

-- section 5.1.2: row r moves r places to the left
abbrev pub shift_rows : List ℕ → List ℕ
shift_rows s = state (λ r c. cell s r (c + r))

-- section 5.1.3: {02} • s_r ⊕ {03} • s_(r+1) ⊕ s_(r+2) ⊕ s_(r+3), of the four bytes of a column from row r on
unfoldable pub mixed : ℕ → ℕ → ℕ → ℕ → ℕ
mixed a b c d = bit_xor (bit_xor (bit_xor (0x02 • a) (0x03 • b)) c) d

abbrev pub mix_columns : List ℕ → List ℕ
mix_columns s = state (λ r c. mixed (cell s r c) (cell s (r + 1) c) (cell s (r + 2) c) (cell s (r + 3) c))

-- section 5.1.4
abbrev pub add_round_key : List ℕ → List ℕ → List ℕ
add_round_key s k = state (λ r c. bit_xor (cell s r c) (cell k r c))

-- algorithm 1, lines 5 to 8
unfoldable pub round_of : List ℕ → List ℕ → List ℕ
round_of s k = add_round_key (mix_columns (shift_rows (sub_bytes s))) k

-- lines 10 to 12
unfoldable pub last_round : List ℕ → List ℕ → List ℕ
last_round s k = add_round_key (shift_rows (sub_bytes s)) k

-- lines 4 to 9: the state s after n rounds, with round key i given by w
unfoldable pub rounds : (ℕ → List ℕ) → ℕ → List ℕ → List ℕ
rounds w zero s = s
rounds w (suc n) s = round_of (rounds w n s) (w (suc n))

-- algorithm 1, with round key i given by w
unfoldable pub cipher_by : (ℕ → List ℕ) → List ℕ → List ℕ
cipher_by w s = last_round (rounds w 9 (add_round_key s (w 0))) (w 10)

-- AES-128 (block, key)
unfoldable pub cipher : List ℕ → List ℕ → List ℕ
cipher key block = cipher_by (round_key key) block
