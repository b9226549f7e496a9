-- Byte strings placed one after the other are placed as one, one as long as the room is the room; over one of the same length, before one that
-- stands there, and a part of the room worked on in place; and a number's bytes in a block of zeros.
use mathlib.Core.Path.{◌≡◌, sym, ap, ap₂, ◌∙◌}
use mathlib.Core.List.{List, ◌++◌, append_assoc, append-nil}
use Prim.Native.Nat.{ℕ, ◌+◌, ◌≤◌}
use native.Mathlib.Omega.{arith}
use lib.ListN.{length, take, drop, replicate, length-append, drop_of_length-le}
use lib.Seq.{drop-drop, drop_at, length-take-le}
use Rattle.octets.specs.Little.{octets}
use Rattle.octets.specs.Room.{placed}
use Rattle.octets.proofs.LittleLaws.{length-octets}
use Rattle.octets.proofs.RoomLaws.{placed-fits, length-placed, take-placed, take-before, drop-after, placed-start}

pub placed-placed : (d : List ℕ) (at : ℕ) (x y : List ℕ) → at + length x + length y ≤ length d
    → placed (placed d at x) (at + length x) y ≡ placed d at (x ++ y)
placed-placed d at x y h =
    let e : at + length (x ++ y) ≡ at + length x + length y = omega (arith, length-append x y) in
    placed-fits (placed d at x) (at + length x) y (omega (arith, length-placed d at x))
    ∙ rw (take-placed d at x (omega arith), drop-after d at x (at + length x + length y) (omega arith), append_assoc (take at d) x y, ← e)
    (sym (placed-fits d at (x ++ y) (omega arith)))

-- where the second one's place is given
pub placed-next : (d : List ℕ) (at : ℕ) (x : List ℕ) (n : ℕ) (y : List ℕ) → at + length x ≡ n → n + length y ≤ length d
    → placed (placed d at x) n y ≡ placed d at (x ++ y)
placed-next d at x n y e h = rw (← e) (placed-placed d at x y (omega arith))

pub placed-whole : (d x : List ℕ) → length x ≡ length d → placed d 0 x ≡ x
placed-whole d x e =
    placed-start d x (omega arith) ∙ ap (λ (l : List ℕ). x ++ l) (drop_of_length-le d {i = length x} (omega arith)) ∙ append-nil x

pub block_start : (k n : ℕ) → k ≤ 16 → placed (replicate 16 0) 0 (octets k n) ≡ octets k n ++ drop k (replicate 16 0)
block_start k n h =
    let e : length (octets k n) ≡ k = length-octets k n in
    placed-start (replicate 16 0) (octets k n) (omega arith) ∙ rw e

module _ (d : List ℕ) (at : ℕ) where
  -- a part that is lent, and comes back as y
  pub placed-part : (n : ℕ) (y : List ℕ) → length y ≡ n → at + n ≤ length d → take at d ++ (y ++ drop n (drop at d)) ≡ placed d at y
  placed-part n y e h =
      ap (λ (r : List ℕ). take at d ++ (y ++ r)) (drop-drop n at d ∙ ap (λ (k : ℕ). drop (at + k) d) (sym e))
      ∙ sym (append_assoc (take at d) y (drop (at + length y) d))
      ∙ sym (placed-fits d at y (omega arith))

  pub placed-again : (x y : List ℕ) → length x ≡ length y → at + length y ≤ length d → placed (placed d at x) at y ≡ placed d at y
  placed-again x y e h =
      placed-fits (placed d at x) at y (omega (arith, length-placed d at x))
      ∙ ap₂ (λ (l r : List ℕ). l ++ y ++ r) (take-before d at x at (omega arith)) (drop-after d at x (at + length y) (omega arith))
      ∙ sym (placed-fits d at y h)

  pub placed-front : (x y : List ℕ) → length x ≡ at → at + length y ≤ length d → placed (placed d at y) 0 x ≡ placed d 0 (x ++ y)
  placed-front x y e h =
      let both : length (x ++ y) ≡ at + length y = omega (arith, length-append x y) in
      let rest : drop (length x) (placed d at y) ≡ y ++ drop (at + length y) d =
      ap₂ drop e (placed-fits d at y h ∙ append_assoc (take at d) y (drop (at + length y) d))
      ∙ drop_at (take at d) (y ++ drop (at + length y) d) at (length-take-le at d (omega arith)) in
      placed-start (placed d at y) x (omega (arith, length-placed d at y))
      ∙ ap (λ (l : List ℕ). x ++ l) rest
      ∙ sym (append_assoc x y (drop (at + length y) d))
      ∙ ap (λ (k : ℕ). x ++ y ++ drop k d) (sym both)
      ∙ sym (placed-start d (x ++ y) (omega arith))
