-- Facts in an order with places: what the number and the place that are given say of them, and an ordered list of checks whose tests hold just where
-- the facts fail.
use mathlib.Core.Path.{◌≡◌, refl, sym, ◌∙◌}
use mathlib.Core.Logic.{inl, inr}
use mathlib.Core.Bool.{Bool, true, false, true≢false}
use mathlib.Core.List.{List, [], ◌∷◌, ◌++◌}
use Prim.Native.Nat.{ℕ, zero, suc, ◌+◌, ◌<◌}
use native.Mathlib.Omega.{arith}
use Rattle.octets.specs.Checks.{is_zero}
use Rattle.grammar.specs.Faults.{Check, ◌at◌when◌, first, each}
use Rattle.promises.specs.PlacedRules.{PlacedRule, ◌at◌unless◌, AllHold, GivesAt, one_by_one}
use Rattle.promises.proofs.WhenLaws.{Unless}

-- an order of facts gives one number and one place
pub gives-at-one : (rs : List PlacedRule) (n p k q : ℕ) → GivesAt rs n p → GivesAt rs k q → (n ≡ k) × (p ≡ q)
gives-at-one [] n p k q g h = (g.0 ∙ sym h.0, g.1 ∙ sym h.1)
gives-at-one ((m at r unless F) ∷ rs) n p k q (inl g) (inl h) = (g.1 ∙ sym h.1, g.2 ∙ sym h.2)
gives-at-one ((m at r unless F) ∷ rs) n p k q (inl g) (inr h) = absurd (g.0 h.0)
gives-at-one ((m at r unless F) ∷ rs) n p k q (inr g) (inl h) = absurd (h.0 g.0)
gives-at-one ((m at r unless F) ∷ rs) n p k q (inr g) (inr h) = gives-at-one rs n p k q g.1 h.1

-- where all facts hold, 0 is given at 0
pub hold-none : (rs : List PlacedRule) (n p : ℕ) → AllHold rs → GivesAt rs n p → (n ≡ 0) × (p ≡ 0)
hold-none [] n p h g = g
hold-none ((m at q unless F) ∷ rs) n p h (inl g) = absurd (g.0 h.0)
hold-none ((m at q unless F) ∷ rs) n p h (inr g) = hold-none rs n p h.1 g.1

-- ---- facts in two parts, and one by one

pub hold-first : (rs qs : List PlacedRule) → AllHold (rs ++ qs) → AllHold rs
hold-first [] qs h = tt
hold-first ((m at q unless F) ∷ rs) qs h = (h.0, hold-first rs qs h.1)

pub hold-second : (rs qs : List PlacedRule) → AllHold (rs ++ qs) → AllHold qs
hold-second [] qs h = h
hold-second ((m at q unless F) ∷ rs) qs h = hold-second rs qs h.1

pub hold-each : (G : ℕ → List PlacedRule) (i m k : ℕ) → AllHold (one_by_one G i m) → k < m → AllHold (G (i + k))
hold-each G i zero k h l = absurd (omega arith)
hold-each G i (suc m) zero h l = let z : i + 0 ≡ i = omega arith in rw z (hold-first (G i) (one_by_one G (suc i) m) h)
hold-each G i (suc m) (suc k) h l =
    let z : i + suc k ≡ suc i + k = omega arith in
    rw z (hold-each G (suc i) m k (hold-second (G i) (one_by_one G (suc i) m) h) (omega arith))

-- ---- checks and facts: the same numbers, above 0, at the same places; and each test holds just where its fact fails, if those before it hold

abbrev pub Fits : List Check → List PlacedRule → Type 0
Fits [] [] = Unit
Fits [] (r ∷ rs) = ⊥
Fits (c ∷ cs) [] = ⊥
Fits ((n at p when t) ∷ cs) ((m at q unless F) ∷ rs) = (is_zero n ≡ false) × (n ≡ m) × (p ≡ q) × Unless t F × (F → Fits cs rs)

-- one check and its fact, with the same number and place
pub check : {m p : ℕ} {t : Bool} {F A : Type 0} → Unless t F → (F → A) → (false ≡ false) × (m ≡ m) × (p ≡ p) × Unless t F × (F → A)
check w g = (refl, refl, refl, w, g)

pub fits-append : (cs : List Check) (rs : List PlacedRule) (ds : List Check) (qs : List PlacedRule)
    → Fits cs rs → (AllHold rs → Fits ds qs) → Fits (cs ++ ds) (rs ++ qs)
fits-append [] [] ds qs f g = g tt
fits-append [] (r ∷ rs) ds qs f g = absurd f
fits-append (c ∷ cs) [] ds qs f g = absurd f
fits-append ((n at p when t) ∷ cs) ((m at q unless F) ∷ rs) ds qs f g =
    (f.0, f.1, f.2, f.3, λ x. fits-append cs rs ds qs (f.4 x) (λ h. g (x, h)))

-- of n things one after the other, where I is known of the thing that is come to
module _ (C : ℕ → List Check) (G : ℕ → List PlacedRule) (n : ℕ) (I : ℕ → Type 0) where
  pub fits_each : ((i : ℕ) → i < n → I i → Fits (C i) (G i)) → ((i : ℕ) → i < n → I i → AllHold (G i) → I (suc i))
      → (i m : ℕ) → i + m ≡ n → I i → Fits (each C i m) (one_by_one G i m)
  unfolding each
  fits_each f g i zero e h = tt
  fits_each f g i (suc m) e h =
      fits-append (C i) (G i) (each C (suc i) m) (one_by_one G (suc i) m) (f i (omega arith) h)
      (λ x. fits_each f g (suc i) m (omega arith) (g i (omega arith) h x))

-- the first fault is the first fact that fails
pub fits_gives : (cs : List Check) (rs : List PlacedRule) → Fits cs rs → GivesAt rs (first cs).number (first cs).offset
unfolding first
fits_gives [] [] f = (refl, refl)
fits_gives [] (r ∷ rs) f = absurd f
fits_gives (c ∷ cs) [] f = absurd f
fits_gives ((zero at p when t) ∷ cs) ((m at q unless F) ∷ rs) f = absurd (true≢false f.0)
fits_gives ((suc n at p when true) ∷ cs) ((m at q unless F) ∷ rs) f = inl (λ x. true≢false (f.3.said x), f.1, f.2)
fits_gives ((suc n at p when false) ∷ cs) ((m at q unless F) ∷ rs) f =
    let x = f.3.says refl in inr (x, fits_gives cs rs (f.4 x))

pub fits-good : (cs : List Check) (rs : List PlacedRule) → Fits cs rs → (first cs).number ≡ 0 → AllHold rs
unfolding first
fits-good [] [] f e = tt
fits-good [] (r ∷ rs) f e = absurd f
fits-good (c ∷ cs) [] f e = absurd f
fits-good ((zero at p when t) ∷ cs) ((m at q unless F) ∷ rs) f e = absurd (true≢false f.0)
fits-good ((suc n at p when true) ∷ cs) ((m at q unless F) ∷ rs) f e = absurd (omega arith)
fits-good ((suc n at p when false) ∷ cs) ((m at q unless F) ∷ rs) f e =
    let x = f.3.says refl in (x, fits-good cs rs (f.4 x) e)
