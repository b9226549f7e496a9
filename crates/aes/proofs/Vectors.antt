-- The examples of FIPS 197, as theorems that antt computes.
use mathlib.Core.Path.{◌≡◌, refl}
use mathlib.Core.List.{List, [], ◌∷◌}
use Prim.Native.Nat.{ℕ}
use lib.ListN.{replicate}
use Rattle.aes.specs.Field.{◌•◌, product}
use Rattle.aes.specs.Sbox.{sbox, table}
use Rattle.aes.specs.KeyExpansion.{power, next_key, round_key}
use Rattle.aes.specs.Cipher.{mixed, round_of, last_round, rounds, cipher_by, cipher}

-- section 4.2
pub product-57-13 : 0x57 • 0x13 ≡ 0xfe
unfolding ◌•◌ product
product-57-13 = refl

-- the key of appendices A.1 and B
abbrev key_a : List ℕ
key_a = 0x2b ∷ 0x7e ∷ 0x15 ∷ 0x16 ∷ 0x28 ∷ 0xae ∷ 0xd2 ∷ 0xa6 ∷ 0xab ∷ 0xf7 ∷ 0x15 ∷ 0x88 ∷ 0x09 ∷ 0xcf ∷ 0x4f ∷ 0x3c ∷ []

-- appendix A.1: the last round key
pub last-key-a : round_key key_a 10 ≡ 0xd0 ∷ 0x14 ∷ 0xf9 ∷ 0xa8 ∷ 0xc9 ∷ 0xee ∷ 0x25 ∷ 0x89 ∷ 0xe1 ∷ 0x3f ∷ 0x0c ∷ 0xc8 ∷ 0xb6 ∷ 0x63 ∷ 0x0c ∷ 0xa6 ∷ []
unfolding power next_key round_key sbox table
last-key-a = refl

-- appendix B
pub vector-b : cipher key_a (0x32 ∷ 0x43 ∷ 0xf6 ∷ 0xa8 ∷ 0x88 ∷ 0x5a ∷ 0x30 ∷ 0x8d ∷ 0x31 ∷ 0x31 ∷ 0x98 ∷ 0xa2 ∷ 0xe0 ∷ 0x37 ∷ 0x07 ∷ 0x34 ∷ [])
    ≡ 0x39 ∷ 0x25 ∷ 0x84 ∷ 0x1d ∷ 0x02 ∷ 0xdc ∷ 0x09 ∷ 0xfb ∷ 0xdc ∷ 0x11 ∷ 0x85 ∷ 0x97 ∷ 0x19 ∷ 0x6a ∷ 0x0b ∷ 0x32 ∷ []
unfolding ◌•◌ product sbox table power next_key round_key mixed round_of last_round rounds cipher_by cipher
vector-b = refl

-- appendix C.1
pub vector-c : cipher (0x00 ∷ 0x01 ∷ 0x02 ∷ 0x03 ∷ 0x04 ∷ 0x05 ∷ 0x06 ∷ 0x07 ∷ 0x08 ∷ 0x09 ∷ 0x0a ∷ 0x0b ∷ 0x0c ∷ 0x0d ∷ 0x0e ∷ 0x0f ∷ []) (0x00 ∷ 0x11 ∷ 0x22 ∷ 0x33 ∷ 0x44 ∷ 0x55 ∷ 0x66 ∷ 0x77 ∷ 0x88 ∷ 0x99 ∷ 0xaa ∷ 0xbb ∷ 0xcc ∷ 0xdd ∷ 0xee ∷ 0xff ∷ [])
    ≡ 0x69 ∷ 0xc4 ∷ 0xe0 ∷ 0xd8 ∷ 0x6a ∷ 0x7b ∷ 0x04 ∷ 0x30 ∷ 0xd8 ∷ 0xcd ∷ 0xb7 ∷ 0x80 ∷ 0x70 ∷ 0xb4 ∷ 0xc5 ∷ 0x5a ∷ []
unfolding ◌•◌ product sbox table power next_key round_key mixed round_of last_round rounds cipher_by cipher
vector-c = refl

-- ---- three blocks, each enciphered under the one before it: the secrets of a capability that is narrowed twice (promises/proofs/Boxes)

abbrev pub zeroth : List ℕ
zeroth = 131 ∷ 173 ∷ 19 ∷ 2 ∷ 50 ∷ 231 ∷ 18 ∷ 239 ∷ 4 ∷ 103 ∷ 238 ∷ 114 ∷ 210 ∷ 191 ∷ 172 ∷ 71 ∷ []

abbrev pub once : List ℕ
once = 136 ∷ 94 ∷ 15 ∷ 221 ∷ 141 ∷ 56 ∷ 89 ∷ 57 ∷ 152 ∷ 242 ∷ 7 ∷ 182 ∷ 157 ∷ 126 ∷ 83 ∷ 37 ∷ []

abbrev pub twice : List ℕ
twice = 166 ∷ 101 ∷ 175 ∷ 55 ∷ 207 ∷ 237 ∷ 250 ∷ 228 ∷ 47 ∷ 126 ∷ 238 ∷ 135 ∷ 123 ∷ 179 ∷ 12 ∷ 148 ∷ []

-- a block of that first byte and zeros
abbrev pub low : ℕ → List ℕ
low b = b ∷ replicate 15 0

pub chain-of-three : (cipher (replicate 16 3) (low 1) ≡ zeroth) × (cipher zeroth (low 12) ≡ once) × (cipher once (low 6) ≡ twice)
unfolding ◌•◌ product sbox table power next_key round_key mixed round_of last_round rounds cipher_by cipher
chain-of-three = (refl, refl, refl)
