-- A byte string placed in a room: where it fits it is there and the bytes before and after it are kept, and else the room is
-- as it was. Its length is never changed.
use mathlib.Core.Path.{◌≡◌, refl, sym, ap, ◌∙◌}
use mathlib.Core.Bool.{Bool, true, false}
use mathlib.Core.List.{List, [], ◌∷◌, ◌++◌, append_assoc, append-nil}
use Prim.Native.Nat.{ℕ, zero, suc, ◌+◌, ◌-◌, ◌<◌, ◌≤◌}
use native.Mathlib.Nat.{zero-add, suc-add}
use native.Mathlib.Omega.{arith}
use borrow.Author.Tests.{le-leb, lt-leb, leb-true, leb-false}
use lib.Dec.{leb}
use lib.ListN.{length, get_or, take, drop, replicate, length-take, length-drop, length-replicate, drop_of_length-le}
use lib.Seq.{take_all, take-length, take-nil, take-take, drop-drop, drop_at, take-append-le, length-take-le, paste, length-paste, take-paste, drop-paste}
use Rattle.octets.specs.Checks.{pick}
use Rattle.octets.specs.Room.{part, over, placed, at_start, filled}

-- the rest of a slice that is lent as `&s[at..]`
pub part-rest : (s : List ℕ) (at : ℕ) → part s at (length s - at) ≡ drop at s
part-rest s at = take_all (length s - at) (drop at s) (omega (arith, length-drop at s))

-- where the slice ends first, a part is the rest
pub part_end : (s : List ℕ) (at size : ℕ) → length s - at ≤ size → part s at size ≡ drop at s
part_end s at size h = take_all size (drop at s) (omega (arith, length-drop at s))

pub length_part : (s : List ℕ) (at size : ℕ) → at + size ≤ length s → length (part s at size) ≡ size
length_part s at size h = length-take-le size (drop at s) (omega (arith, length-drop at s))

-- a part, from the bytes up to its end
pub part-take : (at size : ℕ) (s : List ℕ) → part s at size ≡ drop at (take (at + size) s)
part-take zero size s = rw zero-add
part-take (suc at) size [] = simp (suc-add, take-nil)
part-take (suc at) size (b ∷ s) = rw suc-add (part-take at size s)

module _ (d : List ℕ) (at : ℕ) (x : List ℕ) where
  pub placed-fits : at + length x ≤ length d → placed d at x ≡ over d at x
  unfolding placed
  placed-fits h = rw (le-leb (at + length x) (length d) h)

  pub placed-short : length d < at + length x → placed d at x ≡ d
  unfolding placed
  placed-short h = rw (lt-leb (at + length x) (length d) h)

  -- what holds of the room with x in it, where x fits, and of the room as it was, where not, holds of the room
  pub placed-ind : (P : List ℕ → Type 0) → (at + length x ≤ length d → P (over d at x)) → (length d < at + length x → P d) → P (placed d at x)
  unfolding placed
  placed-ind P f g = either (leb (at + length x) (length d)) refl where
    either : (t : Bool) → leb (at + length x) (length d) ≡ t → P (pick t (over d at x) d)
    either true e = f (leb-true (at + length x) (length d) e)
    either false e = g (leb-false (at + length x) (length d) e)

  -- the copy of the whole of x
  pub pasted : paste d at x (length x) ≡ over d at x
  pasted = rw take-length

  pub length-placed : length (placed d at x) ≡ length d
  length-placed =
      placed-ind (λ l. length l ≡ length d) (λ h. rw pasted at (length-paste d at x (length x) h (omega arith))) (λ h. refl)

  -- with x in it, the room begins with what stood before `at`, and with x
  pub take-placed : at + length x ≤ length d → take (at + length x) (placed d at x) ≡ take at d ++ x
  take-placed h = rw (placed-fits h, ← pasted) (take-paste d at x (length x) (omega arith) (omega arith) ∙ rw take-length)

  pub part_placed : at + length x ≤ length d → part (placed d at x) at (length x) ≡ x
  part_placed h =
      rw (part-take at (length x) (placed d at x), take-placed h) (drop_at (take at d) x at (length-take-le at d (omega arith)))

  -- the bytes before x and after it are kept, whether it fits or not
  pub take-before : (j : ℕ) → j ≤ at → take j (placed d at x) ≡ take j d
  take-before j b = placed-ind (λ l. take j l ≡ take j d) before (λ h. refl) where
    before : at + length x ≤ length d → take j (over d at x) ≡ take j d
    before h =
        rw append_assoc (take-append-le j (take at d) (x ++ drop (at + length x) d) (rw (length-take-le at d (omega arith)) b) ∙ take-take j at d b)

  pub drop-after : (j : ℕ) → at + length x ≤ j → drop j (placed d at x) ≡ drop j d
  drop-after j b = placed-ind (λ l. drop j l ≡ drop j d) after (λ h. refl) where
    after : at + length x ≤ length d → drop j (over d at x) ≡ drop j d
    after h =
        let e : at + length x + (j - (at + length x)) ≡ j = omega arith in
        let k : drop (at + length x) (over d at x) ≡ drop (at + length x) d =
        rw pasted at (drop-paste d at x (length x) (omega arith) (omega arith)) in
        let m : ℕ = j - (at + length x) in
        rw (← e) (sym (drop-drop m (at + length x) (over d at x)) ∙ ap (drop m) k ∙ drop-drop m (at + length x) d)

  pub part-before : (j k : ℕ) → j + k ≤ at → part (placed d at x) j k ≡ part d j k
  part-before j k b = rw (part-take j k (placed d at x), take-before (j + k) b) (sym (part-take j k d))

  pub part-after : (j k : ℕ) → at + length x ≤ j → part (placed d at x) j k ≡ part d j k
  part-after j k b = ap (take k) (drop-after j b)

pub placed-start : (d x : List ℕ) → length x ≤ length d → placed d 0 x ≡ at_start x d
placed-start d x h = rw (placed-fits d 0 x (omega arith), zero-add)

pub get_or-zeros : (m i : ℕ) → ◌≡◌ {A = ℕ} (get_or (replicate m 0) i 0) 0
get_or-zeros zero i = refl
get_or-zeros (suc m) zero = refl
get_or-zeros (suc m) (suc i) = get_or-zeros m i

-- byte i of a string that zeros fill up, there or not
pub filled-byte : (k : ℕ) (s : List ℕ) (i : ℕ) → i < k → get_or (filled k s 0) i 0 ≡ get_or s i 0
unfolding filled
filled-byte zero s i h = absurd (omega arith)
filled-byte (suc k) [] i h = get_or-zeros (suc k) i
filled-byte (suc k) (b ∷ s) zero h = refl
filled-byte (suc k) (b ∷ s) (suc i) h = filled-byte k s i (omega arith)

-- the bytes that a room of as many zeros holds once the part was placed
module _ (k : ℕ) (s : List ℕ) (at : ℕ) where
  abbrev zeros : List ℕ
  zeros = replicate k 0

  zeros-long : length zeros ≡ k
  zeros-long = length-replicate k 0

  pub filled-placed : placed (replicate k 0) 0 (part s at k) ≡ filled k s at
  unfolding filled
  filled-placed = placed-start zeros (part s at k) (omega (arith, length-take k (drop at s), zeros-long))

  pub length-filled : length (filled k s at) ≡ k
  length-filled = rw (← filled-placed) (length-placed zeros 0 (part s at k) ∙ zeros-long)

  -- where the string reaches there, they are its own
  pub filled-whole : k ≤ length (part s at k) → filled k s at ≡ part s at k
  unfolding filled
  filled-whole h =
      ap (λ (l : List ℕ). part s at k ++ l) (drop_of_length-le zeros {i = length (part s at k)} (omega (arith, zeros-long)))
      ∙ append-nil (part s at k)

  pub filled-there : at + k ≤ length s → filled k s at ≡ part s at k
  filled-there h = filled-whole (omega (arith, length_part s at k h))
