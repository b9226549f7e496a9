-- Numbers in bytes, little-endian. Document 01, first section: "All numbers of ours are little-endian."
use Rattle.std.specs.Prelude.{ℕ, zero, suc, ◌+◌, ◌*◌, ◌/◌, ◌%◌, ◌<◌, List, [], ◌∷◌}

-- the number that bytes write, the lowest first
unfoldable pub number : List ℕ → ℕ
number [] = 0
number (b ∷ bs) = b + 256 * number bs

-- the k lowest bytes of n, the lowest first
unfoldable pub octets : ℕ → ℕ → List ℕ
octets zero n = []
octets (suc k) n = n % 256 ∷ octets k (n / 256)

-- each is a byte
abbrev pub Bytes : List ℕ → Type 0
Bytes [] = Unit
Bytes (b ∷ bs) = (b < 256) × Bytes bs
