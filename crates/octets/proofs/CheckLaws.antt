-- Ordered checks: what a table's answer says of its rows, and what the answers of stages say of theirs.
-- `tests` closes a need that asks how a test comes out, and `staged` one that asks for the answer of stages.
use mathlib.Core.Path.{◌≡◌, refl, sym, ◌∙◌}
use mathlib.Core.Logic.{◌≢◌, inl, inr}
use mathlib.Core.Bool.{Bool, true, false, not, ◌&&◌, true≢false, false≢true}
use mathlib.Core.List.{List, [], ◌∷◌, ◌++◌}
use Prim.Native.Nat.{ℕ, zero, suc}
use native.Mathlib.Omega.{arith}
use borrow.Author.Rules.{rules}
use borrow.Author.Tests.{lt-ltb, le-ltb, lt-leb, le-leb, eq-eqb, ne_eqb, not-true, not-false}
use Rattle.octets.specs.Checks.{Row, ◌when◌, pick, refusal, ◌then◌, is_zero, numbered, Passed, Each, First}

module _ {ℓ κ} {A : Type ℓ} {B : Type κ} where
  pub pick-ap : (f : A → B) (t : Bool) (a b : A) → f (pick t a b) ≡ pick t (f a) (f b)
  pick-ap f true a b = refl
  pick-ap f false a b = refl

-- what holds of both choices holds of the one that is picked
pub pick_ind : {A : Type 0} {a b : A} (P : A → Type 0) (t : Bool) → (t ≡ true → P a) → P b → P (pick t a b)
pick_ind P true f g = f refl
pick_ind P false f g = g

-- what `if !f(x)` says of the test that f answers
pub no : {r t : Bool} → r ≡ t → not r ≡ true → t ≡ false
no {r} e h = sym e ∙ not-true r h

pub yes : {r t : Bool} → r ≡ t → not r ≡ false → t ≡ true
yes {r} e h = sym e ∙ not-false r h

pub and_left : (a b : Bool) → (a && b) ≡ true → a ≡ true
and_left true b e = refl
and_left false b e = absurd (false≢true e)

pub and_right : (a b : Bool) → (a && b) ≡ true → b ≡ true
and_right true b e = e
and_right false b e = absurd (false≢true e)

pub and_both : (a b : Bool) → a ≡ true → b ≡ true → (a && b) ≡ true
and_both a b p q = cc

-- what holds of 0 and of each number of a table holds of its answer
pub refusal-ind : (P : ℕ → Type 0) (rs : List Row) → P 0 → Each P rs → P (refusal rs)
refusal-ind P [] z h = z
refusal-ind P ((n when true) ∷ rs) z h = h.0
refusal-ind P ((n when false) ∷ rs) z h = refusal-ind P rs z h.1

-- a table accepts just where no test holds
pub passed-of : (rs : List Row) → numbered rs ≡ true → refusal rs ≡ 0 → Passed rs
passed-of [] h e = tt
passed-of ((zero when t) ∷ rs) h e = absurd (false≢true h)
passed-of ((suc n when true) ∷ rs) h e = absurd (omega arith)
passed-of ((suc n when false) ∷ rs) h e = (refl, passed-of rs h e)

pub of-passed : (rs : List Row) → Passed rs → refusal rs ≡ 0
of-passed [] h = refl
of-passed ((n when true) ∷ rs) h = absurd (true≢false h.0)
of-passed ((n when false) ∷ rs) h = of-passed rs h.1

-- a table refuses with the number of the first row whose test holds
pub first_of : (n : ℕ) (rs : List Row) → refusal rs ≡ suc n → First (suc n) rs
first_of n [] e = omega arith
first_of n ((m when true) ∷ rs) e = inl (refl, sym e)
first_of n ((m when false) ∷ rs) e = inr (refl, first_of n rs e)

pub of-first : (n : ℕ) (rs : List Row) → First n rs → refusal rs ≡ n
of-first n [] h = absurd h
of-first n ((m when true) ∷ rs) (inl h) = sym h.1
of-first n ((m when true) ∷ rs) (inr h) = absurd (true≢false h.0)
of-first n ((m when false) ∷ rs) (inl h) = absurd (false≢true h.0)
of-first n ((m when false) ∷ rs) (inr h) = of-first n rs h.1

-- a table in two parts answers as two stages
pub refusal-append : (rs qs : List Row) → numbered rs ≡ true → refusal (rs ++ qs) ≡ (refusal rs then refusal qs)
refusal-append [] qs h = refl
refusal-append ((zero when t) ∷ rs) qs h = absurd (false≢true h)
refusal-append ((suc n when true) ∷ rs) qs h = refl
refusal-append ((suc n when false) ∷ rs) qs h = refusal-append rs qs h

pub is_zero-true : (n : ℕ) → is_zero n ≡ true → n ≡ 0
is_zero-true zero e = refl
is_zero-true (suc n) e = absurd (false≢true e)

pub is_zero-false : (n : ℕ) → n ≢ 0 → is_zero n ≡ false
is_zero-false zero h = absurd (h refl)
is_zero-false (suc n) h = refl

-- what stands before decides, whatever comes after
pub then_some : (a b : ℕ) → a ≢ 0 → (a then b) ≡ a
then_some zero b h = absurd (h refl)
then_some (suc a) b h = refl

pub then-none : (a b : ℕ) → a ≡ 0 → (a then b) ≡ b
then-none zero b h = refl
then-none (suc a) b h = absurd (omega arith)

pub then-stops : (a b c : ℕ) → is_zero a ≡ false → (a then b) ≡ (a then c)
then-stops zero b c e = absurd (true≢false e)
then-stops (suc a) b c e = refl

pub then-nonzero : (a b : ℕ) → is_zero a ≡ false → is_zero (a then b) ≡ false
then-nonzero zero b e = absurd (true≢false e)
then-nonzero (suc a) b e = refl

-- stages accept where each of them does
pub then-passed : (a b : ℕ) → (a then b) ≡ 0 → (a ≡ 0) × (b ≡ 0)
then-passed zero b e = (refl, e)
then-passed (suc a) b e = absurd (omega arith)

-- the answer n of a stage a, and m of what comes after: code that returns early, and code that goes on
pub then-stop : (n a b : ℕ) → n ≡ a → n ≢ 0 → n ≡ (a then b)
then-stop n zero b e h = absurd (h e)
then-stop n (suc a) b e h = e

pub then-go : (n m a b : ℕ) → n ≡ a → n ≡ 0 → m ≡ b → m ≡ (a then b)
then-go n m zero b e h k = k
then-go n m (suc a) b e h k = absurd (omega arith)

pub ruleset tests = (lt-ltb, le-ltb, lt-leb, le-leb, eq-eqb, ne_eqb, rules)

pub ruleset staged = (then-stop, then-go, rules)
