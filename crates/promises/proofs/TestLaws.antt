-- What a passed test says of numbers, bytes, words and phases, and when it passes.
use mathlib.Core.Path.{◌≡◌, refl}
use mathlib.Core.Logic.{◌⊎◌, inl, inr}
use mathlib.Core.Bool.{Bool, true, false, not, ◌||◌, false≢true}
use mathlib.Core.List.{List, [], ◌∷◌}
use Prim.Native.Nat.{ℕ, zero, suc, ◌+◌, ◌≤◌, ◌<◌}
use native.Mathlib.Omega.{arith}
use borrow.Author.Tests.{not-false, eqb-true, eq-eqb, le-ltb}
use lib.Dec.{eqb}
use lib.ListN.{length, get_or, replicate}
use Rattle.octets.specs.Checks.{is_zero}
use Rattle.octets.specs.Little.{number}
use Rattle.octets.specs.Room.{part, number_at}
use Rattle.octets.proofs.CheckLaws.{is_zero-true, and_left, and_right, and_both}
use Rattle.octets.proofs.RoomLaws.{length_part}
use Rattle.capability.specs.Rights.{allows, all_allow}
use Rattle.state.specs.declared.transitions.Phase.{Phase}
use Rattle.state.specs.declared.transitions.Phase.TheVariants.{Idle, Waiting, Open}
use Rattle.view.specs.Counted.{no_such}
use Rattle.view.specs.Phases.{is_open}
use Rattle.promises.specs.Stands.{BitSet, Names}

pub named-such : (n count : ℕ) → Names n count → no_such n count ≡ false
unfolding no_such
named-such zero count h = absurd (omega arith)
named-such (suc n) count h = le-ltb count (suc n) h.1

-- a group that is 0, or another one
pub zero_or : (g h : ℕ) → not (is_zero g || eqb g h) ≡ false → (g ≡ 0) ⊎ (g ≡ h)
zero_or zero h e = inl refl
zero_or (suc g) h e = inr (eqb-true (suc g) h (not-false _ e))

pub or-zero : (g h : ℕ) → (g ≡ 0) ⊎ (g ≡ h) → not (is_zero g || eqb g h) ≡ false
or-zero zero h e = refl
or-zero (suc g) h (inl e) = absurd (omega arith)
or-zero (suc g) h (inr e) = rw (eq-eqb (suc g) h e)

-- bytes whose number is 0
pub only-zeros : (k : ℕ) (bs : List ℕ) → length bs ≡ k → number bs ≡ 0 → bs ≡ replicate k 0
unfolding number
only-zeros zero [] l e = refl
only-zeros zero (b ∷ bs) l e = absurd (omega arith)
only-zeros (suc k) [] l e = absurd (omega arith)
only-zeros (suc k) (b ∷ bs) l e =
    let z : b ≡ 0 = omega arith in
    cc (z, only-zeros k bs (omega arith) (omega arith))

pub zeros-at : (s : List ℕ) (at k : ℕ) → at + k ≤ length s → not (is_zero (number_at s at k)) ≡ false → part s at k ≡ replicate k 0
zeros-at s at k h e = only-zeros k (part s at k) (length_part s at k h) (is_zero-true _ (not-false _ e))

-- the bits of words
pub bits-set : (c : ℕ) (ws : List ℕ) → all_allow c ws ≡ true → (k : ℕ) → k < length ws → BitSet c (get_or ws k 0)
unfolding all_allow allows
bits-set c [] h k l = absurd (omega arith)
bits-set c (w ∷ ws) h zero l = eqb-true _ 1 (and_left _ _ h)
bits-set c (w ∷ ws) h (suc k) l = bits-set c ws (and_right (allows c w) _ h) k (omega arith)

pub set-bits : (c : ℕ) (ws : List ℕ) → ((k : ℕ) → k < length ws → BitSet c (get_or ws k 0)) → all_allow c ws ≡ true
unfolding all_allow allows
set-bits c [] f = refl
set-bits c (w ∷ ws) f = and_both _ _ (eq-eqb _ 1 (f 0 (omega arith))) (set-bits c ws (λ k l. f (suc k) (omega arith)))

-- a phase that is open
pub open-phase : (p : Phase) → is_open p ≡ true → (last : ℕ) × (owed : Bool) × (p ≡ Open last owed)
open-phase Idle e = absurd (false≢true e)
open-phase Waiting e = absurd (false≢true e)
open-phase (Open last owed) e = (last, owed, refl)
