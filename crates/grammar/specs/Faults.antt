-- Ordered checks with a place: `number at place when test`. The first whose test holds is the fault; none is number 0 at 0.
use Rattle.std.specs.Prelude.{ℕ, zero, suc, Bool, List, [], ◌∷◌, ◌++◌, Result, Ok, Err}
use Rattle.octets.specs.Checks.{pick, is_zero}
use Rattle.refusal.specs.Numbers.{refusal_number}
use Rattle.grammar.specs.declared.Fault as Declared

-- a refusal's number and the place of the fault; 0 at 0 for a good book
pub record Fault : Type 0 where
  pub number : ℕ
  pub offset : ℕ

infix 70 ◌at◌when◌
pub data Check : Type 0 where
  ◌at◌when◌ : ℕ → ℕ → Bool → Check

abbrev pub fault : ℕ → ℕ → Fault
fault n p = record { number = n; offset = p }

abbrev pub none : Fault
none = fault 0 0

-- the fault f, or g where f is none
infixr 65 ◌else◌
abbrev pub ◌else◌ : Fault → Fault → Fault
f else g = pick (is_zero f.number) g f

abbrev pub one : Check → Fault
one (n at p when t) = pick t (fault n p) none

unfoldable pub first : List Check → Fault
first [] = none
first (c ∷ cs) = one c else first cs

-- the checks f of m things, from thing i on
unfoldable pub each : (ℕ → List Check) → ℕ → ℕ → List Check
each f i zero = []
each f i (suc m) = f i ++ each f (suc i) m

-- the fault in what a judge hands back
abbrev pub fault_in : Result Unit Declared.Fault → Fault
fault_in (Ok u) = none
fault_in (Err f) = fault (refusal_number f.why) f.offset
