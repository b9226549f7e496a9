-- Numbers in decimal, as text.
use Rattle.std.specs.Prelude.{ℕ, zero, suc, ◌+◌, ◌/◌, ◌%◌, List, [], ◌∷◌, ◌++◌, ltb}
use Rattle.octets.specs.Checks.{pick}

-- n in at most f digits, without leading zeros; 48 is the digit 0
unfoldable pub digits : ℕ → ℕ → List ℕ
digits zero n = []
digits (suc f) n = pick (ltb n 10) ((48 + n) ∷ []) (digits f (n / 10) ++ ((48 + n % 10) ∷ []))

-- a number below 100,000
abbrev pub decimal : ℕ → List ℕ
decimal n = digits 5 n
