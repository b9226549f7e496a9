-- FIPS 197, section 5.2: KEYEXPANSION for AES-128, as figure 6 draws it: the four words of a round key from those before.
use Rattle.std.specs.Prelude.{ℕ, zero, suc, List, [], ◌∷◌, get_or}
use Rattle.std.specs.Int.Bits.{bit_xor}
use Rattle.aes.specs.Field.{xtimes}
use Rattle.aes.specs.Sbox.{sbox}
use Rattle.aes.specs.State.{cell, state}

-- x^n in the field
unfoldable pub power : ℕ → ℕ
power zero = 1
power (suc n) = xtimes (power n)

-- word c of a round key, in its four bytes
abbrev pub word_of : List ℕ → ℕ → List ℕ
word_of k c = cell k 0 c ∷ cell k 1 c ∷ cell k 2 c ∷ cell k 3 c ∷ []

-- ROTWORD ([a0, a1, a2, a3]) = [a1, a2, a3, a0]
abbrev pub rot_word : List ℕ → List ℕ
rot_word w = get_or w 1 0 ∷ get_or w 2 0 ∷ get_or w 3 0 ∷ get_or w 0 0 ∷ []

-- SUBWORD ([a0, a1, a2, a3]) = [SBOX (a0), SBOX (a1), SBOX (a2), SBOX (a3)]
abbrev pub sub_word : List ℕ → List ℕ
sub_word w = sbox (get_or w 0 0) ∷ sbox (get_or w 1 0) ∷ sbox (get_or w 2 0) ∷ sbox (get_or w 3 0) ∷ []

-- byte r of the word Rcon whose first byte is rc, and whose others are 0: table 5
abbrev pub rcon : ℕ → ℕ → ℕ
rcon rc zero = rc
rcon rc (suc r) = 0

-- byte r of word c of the round key after k:
-- w[4 l] = w[4 l - 4] ⊕ SUBWORD (ROTWORD (w[4 l - 1])) ⊕ Rcon[l], and w[4 l + c] = w[4 l + c - 4] ⊕ w[4 l + c - 1]
abbrev pub next_byte : ℕ → List ℕ → ℕ → ℕ → ℕ
next_byte rc k r zero = bit_xor (cell k r 0) (bit_xor (get_or (sub_word (rot_word (word_of k 3))) r 0) (rcon rc r))
next_byte rc k r (suc c) = bit_xor (cell k r (suc c)) (next_byte rc k r c)

unfoldable pub next_key : ℕ → List ℕ → List ℕ
next_key rc k = state (next_byte rc k)

-- round key l, the words w[4 l] to w[4 l + 3]: the key's own four words, and then each from the one before, with
-- Rcon[l] = [x^(l-1), 0, 0, 0] (table 5)
unfoldable pub round_key : List ℕ → ℕ → List ℕ
round_key key zero = state (cell key)
round_key key (suc l) = next_key (power l) (round_key key l)
