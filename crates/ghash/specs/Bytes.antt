-- SP 800-38D, section 6.1: int (X) and [x]_s, on bytes; the first byte is the highest.
use Rattle.std.specs.Prelude.{ℕ, zero, suc, ◌+◌, ◌*◌, ◌/◌, ◌%◌, ◌^◌, List, [], ◌∷◌, get_or}

-- the number that the k bytes of s from `at` on write. A byte past the end of s is 0: so a block at the end of s is padded
-- with 0s, as section 7.1, steps 4 and 5 have it (proofs/Padding)
unfoldable pub num_at : List ℕ → ℕ → ℕ → ℕ
num_at s at zero = 0
num_at s at (suc k) = num_at s at k * 256 + get_or s (at + k) 0

-- [x]_8k: the k lowest bytes of x
unfoldable pub bytes_of : ℕ → ℕ → List ℕ
bytes_of x zero = []
bytes_of x (suc k) = x / 2 ^ (8 * k) % 256 ∷ bytes_of x k
