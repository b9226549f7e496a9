-- Ordered checks. Document 01 gives for each call the order in which its refusals are judged; a table of rows
-- `number when test` says so in the document's own order. It refuses with the number of the first row whose test holds, and
-- answers 0 if none does.
use Rattle.std.specs.Prelude.{◌≡◌, ◌⊎◌, Bool, true, false, not, ◌&&◌, List, [], ◌∷◌, ℕ, zero, suc}

-- a where the test holds, and else b
module _ {ℓ} {A : Type ℓ} where
  abbrev pub pick : Bool → A → A → A
  pick true a b = a
  pick false a b = b

infix 70 ◌when◌
pub data Row : Type 0 where
  ◌when◌ : ℕ → Bool → Row

abbrev pub refusal : List Row → ℕ
refusal [] = 0
refusal ((n when t) ∷ rs) = pick t n (refusal rs)

-- stages: the first number that isn't 0
infixr 65 ◌then◌
abbrev pub ◌then◌ : ℕ → ℕ → ℕ
zero then b = b
(suc a) then b = suc a

abbrev pub is_zero : ℕ → Bool
is_zero zero = true
is_zero (suc n) = false

-- every number of the table is above 0, so that 0 means accepted
abbrev pub numbered : List Row → Bool
numbered [] = true
numbered ((n when t) ∷ rs) = not (is_zero n) && numbered rs

-- no test holds, row by row
abbrev pub Passed : List Row → Type 0
Passed [] = Unit
Passed ((n when t) ∷ rs) = (t ≡ false) × Passed rs

-- P holds of each number of the table
abbrev pub Each : (ℕ → Type 0) → List Row → Type 0
Each P [] = Unit
Each P ((n when t) ∷ rs) = P n × Each P rs

-- m is the number of the first row whose test holds: what makes a table answer m
abbrev pub First : ℕ → List Row → Type 0
First m [] = ⊥
First m ((n when t) ∷ rs) = ((t ≡ true) × (m ≡ n)) ⊎ ((t ≡ false) × First m rs)
