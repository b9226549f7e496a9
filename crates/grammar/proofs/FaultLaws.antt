-- The first fault of an ordered list of checks: in two parts, and thing by thing as a loop comes to them.
use mathlib.Core.Path.{◌≡◌, refl, sym, ap, ◌∙◌}
use mathlib.Core.Logic.{◌≢◌}
use mathlib.Core.Bool.{Bool, true, false}
use mathlib.Core.List.{List, [], ◌∷◌, ◌++◌}
use Prim.Native.Nat.{ℕ, zero, suc, ◌+◌, ◌-◌, ◌<◌, ◌≤◌}
use native.Mathlib.Numerals.{add-one}
use native.Mathlib.Omega.{arith}
use Rattle.std.specs.Prelude.{Result, Ok, Err}
use Rattle.std.specs.Result.{IsErrAnd}
use Rattle.std.proofs.lemmas.Result.{err_from_is_err_and}
use Rattle.octets.specs.Checks.{pick, is_zero}
use Rattle.refusal.specs.declared.Refusal.{Refusal}
use Rattle.refusal.proofs.NumberLaws.{above-zero, refusal-one}
use Rattle.grammar.specs.declared.Fault as Declared
use Rattle.grammar.specs.Faults.{Fault, Check, none, one, first, each, ◌else◌, fault_in}

-- a fault decides, whatever comes after, and none gives way
pub else-stop : (f g : Fault) → f.number ≢ 0 → (f else g) ≡ f
else-stop f g h = either f.number refl where
  either : (n : ℕ) → f.number ≡ n → pick (is_zero n) g f ≡ f
  either zero e = absurd (h e)
  either (suc n) e = refl

pub else-go : (f g : Fault) → f.number ≡ 0 → (f else g) ≡ g
else-go f g e = rw e

else-assoc : (f g h : Fault) → ((f else g) else h) ≡ (f else (g else h))
else-assoc f g h = either (is_zero f.number) refl where
  either : (t : Bool) → is_zero f.number ≡ t → (pick t g f else h) ≡ pick t (g else h) f
  either true e = refl
  either false e = rw e

pub first-append : (xs ys : List Check) → first (xs ++ ys) ≡ (first xs else first ys)
unfolding first
first-append [] ys = refl
first-append (c ∷ cs) ys = rw (first-append cs ys) (sym (else-assoc (one c) (first cs) (first ys)))

-- what a judge hands back is settled by its fault
pub fault_in-one : (x y : Result Unit Declared.Fault) → fault_in x ≡ fault_in y → x ≡ y
fault_in-one (Ok a) (Ok b) e = refl
fault_in-one (Ok a) (Err g) e = absurd (above-zero g.why (sym (ap (λ (f : Fault). f.number) e)))
fault_in-one (Err f) (Ok b) e = absurd (above-zero f.why (ap (λ (f : Fault). f.number) e))
fault_in-one (Err f) (Err g) e = ap Err (both (refusal-one f.why g.why (ap (λ (f : Fault). f.number) e)) (ap (λ (f : Fault). f.offset) e)) where
  both : f.why ≡ g.why → f.offset ≡ g.offset → f ≡ g
  both p q = ap (λ (w : Refusal). record { why = w; offset = f.offset }) p ∙ ap (λ (n : ℕ). record { why = g.why; offset = n }) q

-- judges that hand back the fault f of the first part, and judges that go on to the second
pub stop : (xs ys : List Check) (r : Result Unit Declared.Fault) (f : Declared.Fault)
    → IsErrAnd r (λ g. g ≡ f) → fault_in (Err f) ≡ first xs → fault_in r ≡ first (xs ++ ys)
stop xs ys r f i e =
    let p = err_from_is_err_and r i in
    rw (p.1, p.2)
    (e ∙ sym (else-stop (first xs) (first ys) (λ z. above-zero f.why (ap (λ (g : Fault). g.number) e ∙ z))) ∙ sym (first-append xs ys))

pub go : (xs ys : List Check) (r : Result Unit Declared.Fault) → none ≡ first xs → fault_in r ≡ first ys → fault_in r ≡ first (xs ++ ys)
go xs ys r e k =
    k ∙ sym (else-go (first xs) (first ys) (ap (λ (g : Fault). g.number) (sym e))) ∙ sym (first-append xs ys)

module _ (F : ℕ → List Check) (i n : ℕ) where
  -- at thing i of n the first fault is among those that are left
  abbrev pub Left : Type 0
  Left = (i ≤ n) × (first (each F i (n - i)) ≡ first (each F 0 n))

  left_one : i < n → first (each F i (n - i)) ≡ first (F i ++ each F (i + 1) (n - (i + 1)))
  unfolding each
  left_one l = let e : n - i ≡ suc (n - (i + 1)) = omega arith in rw (e, add-one)

  pub left-stop : Left → i < n → (r : Result Unit Declared.Fault) (f : Declared.Fault)
      → IsErrAnd r (λ g. g ≡ f) → fault_in (Err f) ≡ first (F i) → fault_in r ≡ first (each F 0 n)
  left-stop h l r f k e = stop (F i) (each F (i + 1) (n - (i + 1))) r f k e ∙ sym (left_one l) ∙ h.1

  pub left_end : Left → n ≤ i → none ≡ first (each F 0 n)
  unfolding each first
  left_end h l = let e : n - i ≡ 0 = omega arith in rw e at h.1

module _ (F : ℕ → List Check) (n : ℕ) where
  pub left-all : Left F 0 n
  left-all = let e : n - 0 ≡ n = omega arith in (omega arith, rw e)

  pub left-more : (i : ℕ) → Left F i n → i < n → none ≡ first (F i) → Left F (i + 1) n
  left-more i h l e = (
    omega arith,
    sym (else-go (first (F i)) (first (each F (i + 1) (n - (i + 1)))) (ap (λ (f : Fault). f.number) (sym e)))
        ∙ sym (first-append (F i) (each F (i + 1) (n - (i + 1)))) ∙ sym (left_one F i n l) ∙ h.1,
  )

-- what closes the goals of a loop over things, but for its early exits
pub ruleset things = (left-all, left-more, left_end)
