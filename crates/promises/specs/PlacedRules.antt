-- Facts in an order, each with the number and the place that are given where it fails: "each with the offset of the fault".
use Rattle.std.specs.Prelude.{◌≡◌, ◌⊎◌, List, [], ◌∷◌, ◌++◌, ℕ, zero, suc}

infix 70 ◌at◌unless◌
pub data PlacedRule : Type 1 where
  ◌at◌unless◌ : (number place : ℕ) (fact : Type 0) → PlacedRule

-- every fact holds
abbrev pub AllHold : List PlacedRule → Type 0
AllHold [] = Unit
AllHold ((m at q unless F) ∷ rs) = F × AllHold rs

-- n and p are the number and the place of the first fact that fails, and 0 and 0 where every fact holds
abbrev pub GivesAt : (rules : List PlacedRule) (n p : ℕ) → Type 0
GivesAt [] n p = (n ≡ 0) × (p ≡ 0)
GivesAt ((m at q unless F) ∷ rs) n p = ((¬ F) × (n ≡ m) × (p ≡ q)) ⊎ (F × GivesAt rs n p)

-- the facts of m things one after the other, from thing i on
abbrev pub one_by_one : (facts_of : ℕ → List PlacedRule) (i m : ℕ) → List PlacedRule
one_by_one facts_of i zero = []
one_by_one facts_of i (suc m) = facts_of i ++ one_by_one facts_of (suc i) m
