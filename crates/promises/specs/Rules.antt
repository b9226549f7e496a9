-- Demand 2: "our order of checks". Facts in an order, each with the number that is given where it fails.
use Rattle.std.specs.Prelude.{◌≡◌, ◌⊎◌, List, [], ◌∷◌, ℕ, zero, suc}

infix 70 ◌unless◌
pub data Rule : Type 1 where
  ◌unless◌ : ℕ → Type 0 → Rule

-- every fact holds
abbrev pub Hold : List Rule → Type 0
Hold [] = Unit
Hold ((m unless F) ∷ rs) = F × Hold rs

-- n is the number of the first fact that fails, and 0 where every fact holds
abbrev pub Gives : List Rule → ℕ → Type 0
Gives [] n = n ≡ 0
Gives ((m unless F) ∷ rs) n = ((¬ F) × (n ≡ m)) ⊎ (F × Gives rs n)

-- the first n of the rules
abbrev first : ℕ → List Rule → List Rule
first zero rs = []
first (suc n) [] = []
first (suc n) (r ∷ rs) = r ∷ first n rs

-- n of the rules, after the first k
abbrev pub slice : ℕ → ℕ → List Rule → List Rule
slice zero n rs = first n rs
slice (suc k) n [] = []
slice (suc k) n (r ∷ rs) = slice k n rs
