-- Document 01, "Capability": what a word permits. "Bit c, of value 2^c, stands for command c. Permitted: that bit is 1 in the entry's present
-- word and in all four words, those after the chain's stop included."
use Rattle.std.specs.Prelude.{ℕ, ◌/◌, ◌%◌, ◌^◌, Bool, true, ◌&&◌, List, [], ◌∷◌, eqb}

-- bit c of w is 1
unfoldable pub allows : ℕ → ℕ → Bool
allows c w = eqb (w / 2 ^ c % 2) 1

unfoldable pub all_allow : ℕ → List ℕ → Bool
all_allow c [] = true
all_allow c (w ∷ ws) = allows c w && all_allow c ws

unfoldable pub permitted : ℕ → ℕ → List ℕ → Bool
permitted c present ws = allows c present && all_allow c ws
