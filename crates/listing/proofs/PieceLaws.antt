-- Text that is put into a room piece by piece: two pieces, one after the other, are put as their joined text. Lines, one more at a time, and
-- how long they are together.
use mathlib.Core.Path.{◌≡◌, sym, ap, ◌∙◌}
use mathlib.Core.List.{List, [], ◌++◌, append_assoc, append-nil}
use Prim.Native.Nat.{ℕ, zero, suc, ◌+◌, ◌*◌, ◌≤◌, ◌<◌}
use native.Mathlib.Nat.{add-zero, zero-add, add_assoc, suc-add, add-suc}
use native.Mathlib.Numerals.{add-one}
use native.Mathlib.Omega.{arith}
use lib.ListN.{length, length-append, take-append-drop}
use Rattle.octets.specs.Room.{placed}
use Rattle.octets.proofs.RoomLaws.{placed-fits, length-placed, take-placed, drop-after}
use Rattle.listing.specs.Lines.{lines_from}
use Rattle.listing.specs.Wrote.{Wrote}

module _ (d : List ℕ) (at : ℕ) (x y : List ℕ) where
  placed-placed : at + length x + length y ≤ length d → placed (placed d at x) (at + length x) y ≡ placed d at (x ++ y)
  placed-placed h =
      let l = length-append x y in
      rw (
        placed-fits (placed d at x) (at + length x) y (rw (length-placed d at x) h),
        take-placed d at x (omega arith),
        drop-after d at x (at + length x + length y) (omega arith),
        placed-fits d at (x ++ y) (omega arith),
        l,
        ← add_assoc at (length x) (length y),
      ) (simp append_assoc)

  pub wrote_then : {a b : ℕ} {u v : List ℕ} → Wrote d at x a u → Wrote u a y b v → b ≤ length d → Wrote d at (x ++ y) b v
  wrote_then p q h = (omega (arith, length-append x y), q.1 ∙ rw (p.0, p.1) (placed-placed (omega arith)))

-- nothing was written yet
pub wrote_none : (d : List ℕ) (at : ℕ) → at ≤ length d → Wrote d at [] at d
wrote_none d at h = (omega arith, rw (placed-fits d at [] (omega arith), append-nil, add-zero) (sym (take-append-drop at d)))

-- what was written, by another name
pub wrote_as : (d : List ℕ) (at : ℕ) (x y : List ℕ) {r : ℕ} {e : List ℕ} → Wrote d at x r e → x ≡ y → Wrote d at y r e
wrote_as d at x y w h = rw h at w

lines_more : (f : ℕ → List ℕ) (i k : ℕ) → lines_from f i (suc k) ≡ lines_from f i k ++ f (i + k)
unfolding lines_from
lines_more f i zero = rw add-zero (append-nil (f i))
lines_more f i (suc k) = rw (add-suc, ← suc-add, append_assoc) (ap (λ (l : List ℕ). f i ++ l) (lines_more f (suc i) k))

pub lines_next : (f : ℕ → List ℕ) (k : ℕ) → lines_from f 0 (k + 1) ≡ lines_from f 0 k ++ f k
lines_next f k = rw add-one (rw zero-add at (lines_more f 0 k))

pub length-lines : (f : ℕ → List ℕ) (b i k : ℕ) → ((j : ℕ) → j < i + k → length (f j) ≤ b) → length (lines_from f i k) ≤ k * b
unfolding lines_from
length-lines f b i zero h = omega arith
length-lines f b i (suc k) h =
    simp length-append (omega (arith, h i (omega arith), length-lines f b (suc i) k (λ j l. h j (omega arith))))
