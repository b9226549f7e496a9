-- "Every answer carries a number (0 for accepted)": a load's is 0, or one of those that "Book, each with the offset of the fault" lists; and an
-- accepted load's offset is 0.
use mathlib.Core.Path.{◌≡◌, refl, ap}
use mathlib.Core.Bool.{Bool, true, false, ◌&&◌}
use mathlib.Core.List.{List, [], ◌∷◌, ◌++◌}
use Prim.Native.Nat.{ℕ, zero, suc}
use lib.Dec.{eqb}
use lib.ListN.{length}
use Rattle.octets.specs.Checks.{pick}
use Rattle.octets.proofs.CheckLaws.{and_left, and_right}
use Rattle.layout.specs.Layout.{rows, kind, entries, name_start, name}
use Rattle.grammar.specs.Faults.{Fault, Check, ◌at◌when◌, first, each}
use Rattle.grammar.specs.Checks.{head_checks, row_checks, word_checks, letter_checks, name_checks, interface_checks, body_checks, fault_of}
use Rattle.grammar.proofs.GoodLaws.{good_none}
use Rattle.book.specs.States.{loaded, loaded_with}
use Rattle.promises.specs.Among.{Among, book_numbers}
use Rattle.promises.proofs.Numbers.{in_list, none, row}

abbrev pub NumbersLoad : Type 0
NumbersLoad = (b : List ℕ) → Among book_numbers (loaded b).number

abbrev pub AcceptedAtZero : Type 0
AcceptedAtZero = (b : List ℕ) → (loaded b).number ≡ 0 → (loaded b).offset ≡ 0

-- ---- lists of checks

-- every check's number stands in the list, so the first fault's number is 0 or stands there
abbrev within : List ℕ → List Check → Bool
within ms [] = true
within ms ((n at p when t) ∷ cs) = in_list ms n && within ms cs

first-among : (ms : List ℕ) (cs : List Check) → within ms cs ≡ true → Among ms (first cs).number
unfolding first
first-among ms [] h = none ms
first-among ms ((n at p when false) ∷ cs) h = first-among ms cs (and_right (in_list ms n) _ h)
first-among ms ((zero at p when true) ∷ cs) h = first-among ms cs (and_right (in_list ms 0) _ h)
first-among ms ((suc n at p when true) ∷ cs) h = row ms true (suc n) 0 (and_left (in_list ms (suc n)) _ h) (none ms)

module _ (ms : List ℕ) where
  within-append : (xs ys : List Check) → within ms xs ≡ true → within ms ys ≡ true → within ms (xs ++ ys) ≡ true
  within-append [] ys h k = k
  within-append ((n at p when t) ∷ xs) ys h k =
      rw (and_left (in_list ms n) (within ms xs) h) (within-append xs ys (and_right (in_list ms n) (within ms xs) h) k)

  within-each : (F : ℕ → List Check) → ((i : ℕ) → within ms (F i) ≡ true) → (i m : ℕ) → within ms (each F i m) ≡ true
  unfolding each
  within-each F h i zero = refl
  within-each F h i (suc m) = within-append (F i) (each F (suc i) m) (h i) (within-each F h (suc i) m)

-- ---- the book's: head, rows and bodies

within-body : (b : List ℕ) (i : ℕ) → within book_numbers (body_checks b i) ≡ true
unfolding body_checks interface_checks name_checks
within-body b i =
    within-append book_numbers (pick (eqb (kind b i) 1) [] (interface_checks b i)) (name_checks b i) (either (eqb (kind b i) 1))
    (within-append book_numbers (each (letter_checks (name_start b i) (name b i)) 0 (length (name b i))) _
    (within-each book_numbers (letter_checks (name_start b i) (name b i)) (λ k. refl) 0 (length (name b i))) refl) where
      either : (t : Bool) → within book_numbers (pick t [] (interface_checks b i)) ≡ true
      either true = refl
      either false = within-each book_numbers (word_checks b i) (λ j. refl) 0 (entries b i)

pub numbers-load : NumbersLoad
unfolding loaded loaded_with fault_of
numbers-load b =
    first-among book_numbers (head_checks b ++ each (row_checks b) 0 (rows b) ++ each (body_checks b) 0 (rows b))
    (within-append book_numbers (head_checks b ++ each (row_checks b) 0 (rows b)) (each (body_checks b) 0 (rows b))
    (within-each book_numbers (row_checks b) (λ i. refl) 0 (rows b)) (within-each book_numbers (body_checks b) (within-body b) 0 (rows b)))

pub accepted-at-zero : AcceptedAtZero
unfolding loaded loaded_with
accepted-at-zero b e = ap (λ (f : Fault). f.offset) (good_none b e)
