-- What writing a piece of text does.
use Rattle.std.specs.Prelude.{ℕ, ◌+◌, ◌≡◌, List, length}
use Rattle.octets.specs.Room.{placed}

-- x was put into the room d from `at` on, which makes it e, and r is the place after it
abbrev pub Wrote : List ℕ → ℕ → List ℕ → ℕ → List ℕ → Type 0
Wrote d at x r e = (r ≡ at + length x) × (e ≡ placed d at x)
