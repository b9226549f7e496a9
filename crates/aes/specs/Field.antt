-- FIPS 197, section 4: the field GF(2^8). A byte is a polynomial over GF(2), modulo m(x) = x^8 + x^4 + x^3 + x + 1; the sum
-- of two is their exclusive or (section 4.1).
use Rattle.std.specs.Prelude.{ℕ, zero, suc, ◌*◌, ◌/◌, ◌%◌}
use Rattle.std.specs.Int.Bits.{bit_xor}

-- section 4.2, XTIMES: x times the polynomial b; where b has x^7, m(x) is subtracted
abbrev pub xtimes : ℕ → ℕ
xtimes b = bit_xor (b * 2 % 256) (b / 128 * 0x1b)

-- b where the bit is set
abbrev pub scaled : ℕ → ℕ → ℕ
scaled zero b = 0
scaled (suc n) b = b

-- section 4.2: the product, by the n lowest bits of a: the sum of b, x b, x^2 b, .. where a has the bit
unfoldable pub product : ℕ → ℕ → ℕ → ℕ
product zero a b = 0
product (suc n) a b = bit_xor (scaled (a % 2) b) (product n (a / 2) (xtimes b))

infixl 75 ◌•◌
unfoldable pub ◌•◌ : ℕ → ℕ → ℕ
a • b = product 8 a b

-- section 4.4: the inverse is b^254, and 0 for 0. The powers b^2, b^4, .. b^128 multiplied, n of them
unfoldable pub squares : ℕ → ℕ → ℕ
squares zero s = 1
squares (suc n) s = s • squares n (s • s)

unfoldable pub inverse : ℕ → ℕ
inverse b = squares 7 (b • b)
