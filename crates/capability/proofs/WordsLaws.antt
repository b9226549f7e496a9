-- An array of four words: written out; and the first all-ones place among words, which `position` finds.
use mathlib.Core.Path.{◌≡◌, refl, sym, ap, ◌∙◌}
use mathlib.Core.Bool.{Bool, true, false, cond}
use mathlib.Core.List.{List, [], ◌∷◌}
use Prim.Native.Nat.{ℕ, suc, ◌+◌}
use Prim.Native.Nat.compare
use native.Mathlib.Omega.{arith}
use borrow.Author.Tests.{lt-ltb}
use lib.Dec.{eqb, ltb}
use lib.ListN.{length, get_or, set}
use Rattle.std.specs.Prelude.{Option, Some, None}
use Rattle.std.specs.List.{position_or_len}
use Rattle.std.proofs.lemmas.Option.{cond_some, none-some}
use Rattle.capability.specs.Chain.{all_ones}
use Rattle.capability.specs.Bytes.{narrowed, open?}

pub four-written : (ws : List ℕ) → length ws ≡ 4 → ws ≡ get_or ws 0 0 ∷ get_or ws 1 0 ∷ get_or ws 2 0 ∷ get_or ws 3 0 ∷ []
four-written [] e = absurd (omega arith)
four-written (a ∷ []) e = absurd (omega arith)
four-written (a ∷ b ∷ []) e = absurd (omega arith)
four-written (a ∷ b ∷ c ∷ []) e = absurd (omega arith)
four-written (a ∷ b ∷ c ∷ d ∷ []) e = refl
four-written (a ∷ b ∷ c ∷ d ∷ x ∷ xs) e = absurd (omega arith)

-- the first all-ones place, or how many words there are
abbrev first_ones : List ℕ → ℕ
first_ones ws = position_or_len (λ x. eqb x all_ones) ws

next : {n : ℕ} → 1 + n ≡ suc n
next = omega arith

first-open : (ws : List ℕ) → ltb (first_ones ws) (length ws) ≡ open? ws
unfolding open?
first-open [] = refl
first-open (x ∷ xs) = either (eqb x all_ones) refl (first-open xs) where
  either : (t : Bool) → eqb x all_ones ≡ t → ltb (first_ones xs) (length xs) ≡ open? xs → ltb (first_ones (x ∷ xs)) (length (x ∷ xs)) ≡ open? (x ∷ xs)
  either true e r = rw e (lt-ltb 0 (suc (length xs)) (omega arith))
  either false e r = rw (e, next, compare.suc-suc) r

first-narrowed : (ws : List ℕ) (w : ℕ) → open? ws ≡ true → set ws (first_ones ws) w ≡ narrowed w ws
unfolding narrowed open?
first-narrowed [] w o = refl
first-narrowed (x ∷ xs) w o = either (eqb x all_ones) refl (first-narrowed xs w) where
  either : (t : Bool) → eqb x all_ones ≡ t → (open? xs ≡ true → set xs (first_ones xs) w ≡ narrowed w xs)
      → set (x ∷ xs) (first_ones (x ∷ xs)) w ≡ narrowed w (x ∷ xs)
  either true e r = rw e
  either false e r = rw (e, next) (ap (λ (l : List ℕ). x ∷ l) (r (rw e at o)))

-- the answer of `position`
abbrev place_of : List ℕ → Option ℕ
place_of ws = cond (ltb (first_ones ws) (length ws)) (Some (first_ones ws)) None

pub full-place : (ws : List ℕ) → place_of ws ≡ None → open? ws ≡ false
full-place ws e = either (open? ws) refl where
  either : (t : Bool) → open? ws ≡ t → t ≡ false
  either true o = absurd (none-some (first_ones ws) (sym (rw (first-open ws, o) at e)))
  either false o = refl

pub open-place : (ws : List ℕ) (w i : ℕ) → place_of ws ≡ Some i → (open? ws ≡ true) × (set ws i w ≡ narrowed w ws)
open-place ws w i e =
    let p = cond_some (ltb (first_ones ws) (length ws)) (first_ones ws) i e in
    let o : open? ws ≡ true = sym (first-open ws) ∙ p.0 in
    (o, rw (← p.1) (first-narrowed ws w o))

pub narrowed_none : (w : ℕ) → [] ≡ narrowed w []
unfolding narrowed
narrowed_none w = refl
