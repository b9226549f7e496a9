-- SP 800-38D, section 6.3: multiplication of blocks. A block is a string of 128 bits, here the number that it writes, the
-- leftmost bit highest.
use Rattle.std.specs.Prelude.{ℕ, zero, suc, ◌-◌, ◌*◌, ◌/◌, ◌%◌, ◌^◌}
use Rattle.std.specs.Int.Bits.{bit_xor}

-- R = 11100001 ‖ 0^120
abbrev pub r_128 : ℕ
r_128 = 0b11100001 * 2 ^ 120

-- x_i of X = x_0 x_1 .. x_127
unfoldable pub bit : ℕ → ℕ → ℕ
bit x i = x / 2 ^ (127 - i) % 2

-- LSB_1 (V)
abbrev pub lsb1 : ℕ → ℕ
lsb1 v = v % 2

-- V >> 1
abbrev pub shr : ℕ → ℕ
shr v = v / 2

-- p where the bit is 0, q where it is 1
unfoldable pub by_bit : ℕ → ℕ → ℕ → ℕ
by_bit zero p q = p
by_bit (suc b) p q = q

-- algorithm 1, step 3: Z_i+1 of x_i, Z_i and V_i; and V_i+1 of V_i
unfoldable pub next_z : ℕ → ℕ → ℕ → ℕ
next_z x z v = by_bit x z (bit_xor z v)

unfoldable pub next_v : ℕ → ℕ
next_v v = by_bit (lsb1 v) (shr v) (bit_xor (shr v) r_128)

-- steps 2 and 3: V_i and Z_i
unfoldable pub v_i : ℕ → ℕ → ℕ
v_i y zero = y
v_i y (suc i) = next_v (v_i y i)

unfoldable pub z_i : ℕ → ℕ → ℕ → ℕ
z_i x y zero = 0
z_i x y (suc i) = next_z (bit x i) (z_i x y i) (v_i y i)

-- algorithm 1: X • Y
unfoldable pub dot : ℕ → ℕ → ℕ
dot x y = z_i x y 128
