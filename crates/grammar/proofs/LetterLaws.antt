-- Names byte by byte, and names of letters alone, in which no letter is a fault.
use mathlib.Core.Path.{◌≡◌, refl, sym, ap, ◌∙◌}
use mathlib.Core.Bool.{Bool, true, false, not, ◌&&◌, and_assoc, and-true}
use mathlib.Core.List.{List, [], ◌∷◌}
use Prim.Native.Nat.{ℕ, zero, suc, ◌+◌, ◌-◌, ◌<◌, ◌≤◌}
use native.Mathlib.Numerals.{add-one}
use native.Mathlib.Omega.{arith}
use lib.Dec.{ltb, eqb}
use lib.ListN.{length, get_or, drop, drop_of_length-le}
use lib.Seq.{drop-cons}
use borrow.Author.Tests.{lt-ltb, ne_eqb, eqb-true, eqb-false, not-true}
use Rattle.octets.proofs.CheckLaws.{and_left, and_right}
use Rattle.grammar.specs.Names.{letter, inner, all_inner, plain, inner_space, fitting}
use Rattle.grammar.specs.Faults.{none, first, each}
use Rattle.grammar.specs.Checks.{letter_checks}
use Rattle.grammar.proofs.TestLaws.{or-none, or_right}

-- one more byte is looked at, and none is left
pub inner-step : (t z : Bool) (s : List ℕ) (k : ℕ) → k < length s → z ≡ inner (get_or s k 0)
    → (t && z) && all_inner (drop (k + 1) s) ≡ t && all_inner (drop k s)
unfolding all_inner
inner-step t z s k h e = rw (add-one, e, and_assoc, drop-cons s k 0)

pub inner-end : (t : Bool) (s : List ℕ) (k : ℕ) → length s ≤ k → t && all_inner (drop k s) ≡ t
unfolding all_inner
inner-end t s k h = rw (drop_of_length-le s h) (and-true t)

inner-at : (s : List ℕ) → all_inner s ≡ true → (k : ℕ) → k < length s → inner (get_or s k 0) ≡ true
unfolding all_inner
inner-at [] e k h = absurd (omega arith)
inner-at (x ∷ s) e zero h = and_left (inner x) (all_inner s) e
inner-at (x ∷ s) e (suc k) h = inner-at s (and_right (inner x) (all_inner s) e) k (omega arith)

-- a byte that may stand inside fits, if no space stands at an end
fits-inside : (s : List ℕ) (k : ℕ) → k < length s → inner (get_or s k 0) ≡ true → (get_or s 0 0 ≡ 32 → ⊥) → (get_or s (length s - 1) 0 ≡ 32 → ⊥)
    → fitting s k ≡ true
unfolding inner fitting inner_space
fits-inside s k h e front back = either (eqb (get_or s k 0) 32) refl where
  either : (t : Bool) → eqb (get_or s k 0) 32 ≡ t → fitting s k ≡ true
  either false q =
      let l : letter (get_or s k 0) ≡ true = rw (q, or-none (letter (get_or s k 0))) at e in rw l
  either true q =
      let x : get_or s k 0 ≡ 32 = eqb-true (get_or s k 0) 32 q in
      let a : k ≡ 0 → ⊥ = λ z. front (ap (λ (j : ℕ). get_or s j 0) (sym z) ∙ x) in
      let b : k ≡ length s - 1 → ⊥ = λ z. back (ap (λ (j : ℕ). get_or s j 0) (sym z) ∙ x) in
      or_right (letter (get_or s k 0)) (eqb (get_or s k 0) 32 && (ltb 0 k && ltb (suc k) (length s)))
      (rw (q, lt-ltb 0 k (omega (arith, a)), lt-ltb (suc k) (length s) (omega (arith, b))))

-- what a name that isn't empty has if it is plain
plain-parts : (s : List ℕ) → plain s ≡ true → 0 < length s
    → (get_or s 0 0 ≡ 32 → ⊥) × (get_or s (length s - 1) 0 ≡ 32 → ⊥) × (all_inner s ≡ true)
unfolding plain
plain-parts s e h =
    let z : eqb (length s) 0 ≡ false = ne_eqb (length s) 0 (omega arith) in
    let a : Bool = not (eqb (get_or s 0 0) 32) in
    let b : Bool = not (eqb (get_or s (length s - 1) 0) 32) in
    let f : (a && (b && all_inner s)) ≡ true = rw z at e in
    let g : (b && all_inner s) ≡ true = and_right a (b && all_inner s) f in
    (eqb-false _ _ (not-true _ (and_left a (b && all_inner s) f)), eqb-false _ _ (not-true _ (and_left b (all_inner s) g)), and_right b (all_inner s) g)

-- a plain name has no bad letter
pub plain-good : (p : ℕ) (s : List ℕ) → plain s ≡ true → (i m : ℕ) → i + m ≤ length s → first (each (letter_checks p s) i m) ≡ none
unfolding each first
plain-good p s e i zero h = refl
plain-good p s e i (suc m) h =
    let q = plain-parts s e (omega arith) in
    rw (fits-inside s i (omega arith) (inner-at s q.2 i (omega arith)) q.0 q.1) (plain-good p s e (suc i) m (omega arith))
