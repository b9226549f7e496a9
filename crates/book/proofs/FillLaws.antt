-- What is collected row by row, one more at a time, and lists filled out with 0s: what is stored behind the rows that are there
-- makes the list of one row more, and each row is read back where it stands.
use mathlib.Core.Path.{◌≡◌, refl, sym, ap, ◌∙◌}
use mathlib.Core.List.{List, [], ◌∷◌, ◌++◌, map, append_assoc, append-nil}
use Prim.Native.Nat.{ℕ, zero, suc, ◌+◌, ◌*◌, ◌-◌, ◌<◌, ◌≤◌}
use native.Mathlib.Nat.{add-zero, add-suc, zero-add, suc-add, mul-zero, mul-suc, mul-le-mul_left, sub-zero, zero-sub, suc-sub-suc}
use native.Mathlib.Numerals.{add-one}
use native.Mathlib.Omega.{arith}
use lib.ListN.{length, get_or, set, take, drop, replicate, length-append, length-replicate, replicate-append-replicate, get_or-append}
use lib.Seq.{append_snoc, set_split, take-append_seam, drop-append-add, get_or-take, get_or-drop, paste, paste-suc}
use Rattle.octets.specs.Room.{part, placed, over}
use Rattle.octets.proofs.RoomLaws.{pasted, placed-fits}
use Rattle.book.specs.States.{fill, laid}
use Rattle.book.specs.Columns.{collect, Short}

module _ {A : Type 0} (f : ℕ → A) where
  pub length-collect : (i m : ℕ) → length (collect f i m) ≡ m
  unfolding collect
  length-collect i zero = refl
  length-collect i (suc m) = ap suc (length-collect (suc i) m)

  pub collect-more : (i m : ℕ) → collect f i (suc m) ≡ collect f i m ++ (f (i + m) ∷ [])
  unfolding collect
  collect-more i zero = rw add-zero
  collect-more i (suc m) = rw add-suc (ap (λ (l : List A). f i ∷ l) (rw suc-add at (collect-more (suc i) m)))

  pub get_or-collect : (i m k : ℕ) (d : A) → k < m → get_or (collect f i m) k d ≡ f (i + k)
  unfolding collect
  get_or-collect i zero k d h = absurd (omega arith)
  get_or-collect i (suc m) zero d h = rw add-zero
  get_or-collect i (suc m) (suc k) d h = rw add-suc (rw suc-add at (get_or-collect (suc i) m k d (omega arith)))

pub map-collect : {A B : Type 0} (g : A → B) (f : ℕ → A) (i m : ℕ) → map g (collect f i m) ≡ collect (λ k. g (f k)) i m
unfolding collect
map-collect g f i zero = refl
map-collect g f i (suc m) = rw (map-collect g f (suc i) m)

-- what is collected, over a list from `at` on, and the first j of it
module _ (f : ℕ → ℕ) (d : List ℕ) (at m : ℕ) where
  pub paste_more : (j : ℕ) → at + m ≤ length d → j < m
      → set (paste d at (collect f 0 m) j) (at + j) (f j) ≡ paste d at (collect f 0 m) (suc j)
  paste_more j h l =
      rw (get_or-collect f 0 m j 0 l, zero-add) at (paste-suc d at (collect f 0 m) j 0 (omega arith) (rw length-collect l))

  pub paste_all : paste d at (collect f 0 m) m ≡ over d at (collect f 0 m)
  paste_all = ap (paste d at (collect f 0 m)) (sym (length-collect f 0 m)) ∙ pasted d at (collect f 0 m)

-- k rows of w leave room for one more among m
pub row_fits : (w k m n : ℕ) → k < m → w * m ≤ n → w * k + w ≤ n
row_fits w k m n h l = omega (arith, mul-suc w k, mul-le-mul_left w h)

drop-zeros : (k n : ℕ) → drop k (replicate {A = ℕ} n 0) ≡ replicate (n - k) 0
drop-zeros zero n = rw sub-zero
drop-zeros (suc k) zero = rw zero-sub
drop-zeros (suc k) (suc n) = rw suc-sub-suc (drop-zeros k n)

module _ (n : ℕ) where
  pub fill_none : replicate n 0 ≡ fill n []
  unfolding fill
  fill_none = rw sub-zero

  pub length-fill : (xs : List ℕ) → length xs ≤ n → length (fill n xs) ≡ n
  unfolding fill
  length-fill xs h = simp (length-append, length-replicate) (omega arith)

  pub fill_more : (xs ys : List ℕ) → over (fill n xs) (length xs) ys ≡ fill n (xs ++ ys)
  unfolding fill
  fill_more xs ys =
      let e : n - length xs - length ys ≡ n - (length xs + length ys) = omega arith in
      rw (take-append_seam, drop-append-add, drop-zeros, length-append, e)

  -- what was filled out before is filled out again
  pub fill-fill : (m : ℕ) (xs ys : List ℕ) → length xs + m ≤ n → length ys ≤ m → fill n (xs ++ fill m ys) ≡ fill n (xs ++ ys)
  unfolding fill
  fill-fill m xs ys h l =
      let e : m - length ys + (n - (length xs + (length ys + (m - length ys)))) ≡ n - (length xs + length ys) = omega arith in
      simp (append_assoc, length-append, length-replicate, replicate-append-replicate, e)

  pub get_or-fill : (xs : List ℕ) (k : ℕ) → k < length xs → get_or (fill n xs) k 0 ≡ get_or xs k 0
  unfolding fill
  get_or-fill xs k h = get_or-append xs (replicate (n - length xs) 0) 0 k h

-- one number more
pub set-over : (d : List ℕ) (at y : ℕ) → at < length d → set d at y ≡ over d at (y ∷ [])
set-over d at y h = rw add-one (set_split d at y h ∙ sym (append_snoc (take at d) y (drop (suc at) d)))

pub fill-set : (f : ℕ → ℕ) (n i k : ℕ) → k < n → set (fill n (collect f i k)) k (f (i + k)) ≡ fill n (collect f i (suc k))
fill-set f n i k h =
    let e = length-collect f i k in
    set-over (fill n (collect f i k)) k (f (i + k)) (rw (length-fill n (collect f i k) (omega arith)) h)
    ∙ rw e at (fill_more n (collect f i k) (f (i + k) ∷ []))
    ∙ ap (fill n) (sym (collect-more f i k))

-- rows of w
module _ (w : ℕ) where
  laid-snoc : (xs : List (List ℕ)) (y : List ℕ) → laid w (xs ++ (y ∷ [])) ≡ laid w xs ++ fill w y
  unfolding laid
  laid-snoc [] y = append-nil (fill w y)
  laid-snoc (x ∷ xs) y = rw (laid-snoc xs y, append_assoc)

  take-fill : (xs ys zs : List ℕ) → take (length xs) ((fill w xs ++ ys) ++ zs) ≡ xs
  unfolding fill
  take-fill xs ys zs = simp append_assoc (take-append_seam xs (replicate (w - length xs) 0 ++ (ys ++ zs)))

  module _ (f : ℕ → List ℕ) where
    here : (i m : ℕ) → Short w f i (suc m) → length (f i) ≤ w
    here i m s = rw add-zero at (s 0 (omega arith))

    next : (i m : ℕ) → Short w f i (suc m) → Short w f (suc i) m
    next i m s k h = rw (suc-add, ← add-suc) (s (suc k) (omega arith))

    pub length-laid : (i m : ℕ) → Short w f i m → length (laid w (collect f i m)) ≡ w * m
    unfolding laid collect
    length-laid i zero s = sym (mul-zero w)
    length-laid i (suc m) s =
        rw (length-append, length-fill w (f i) (here i m s), length-laid (suc i) m (next i m s)) (omega (arith, mul-suc w m))

    -- one row more
    pub laid_more : (n i k : ℕ) → w * k + w ≤ n → Short w f i (suc k)
        → over (fill n (laid w (collect f i k))) (w * k) (f (i + k)) ≡ fill n (laid w (collect f i (suc k)))
    laid_more n i k h s =
        let xs = laid w (collect f i k) in
        let e = length-laid i k (λ j l. s j (omega arith)) in
        rw e at (fill_more n xs (f (i + k)))
        ∙ sym (fill-fill n w xs (f (i + k)) (omega arith) (s k (omega arith)))
        ∙ ap (fill n) (sym (laid-snoc (collect f i k) (f (i + k))) ∙ ap (laid w) (sym (collect-more f i k)))

    pub laid-put : (n i k : ℕ) → w * k + w ≤ n → Short w f i (suc k)
        → placed (fill n (laid w (collect f i k))) (w * k) (f (i + k)) ≡ fill n (laid w (collect f i (suc k)))
    laid-put n i k h s =
        let e = length-laid i k (λ j l. s j (omega arith)) in
        let l = length-fill n (laid w (collect f i k)) (omega arith) in
        placed-fits (fill n (laid w (collect f i k))) (w * k) (f (i + k)) (omega (arith, s k (omega arith))) ∙ laid_more n i k h s

    part-row : (zs : List ℕ) (i m k : ℕ) → k < m → Short w f i m
        → part (laid w (collect f i m) ++ zs) (w * k) (length (f (i + k))) ≡ f (i + k)
    unfolding laid collect
    part-row zs i zero k h s = absurd (omega arith)
    part-row zs i (suc m) zero h s = rw (mul-zero, add-zero) (take-fill (f i) (laid w (collect f (suc i) m)) zs)
    part-row zs i (suc m) (suc k) h s =
        let e : length (fill w (f i)) + w * k ≡ w * suc k = omega (arith, mul-suc w k, length-fill w (f i) (here i m s)) in
        rw (← e, append_assoc, drop-append-add, add-suc, ← suc-add) (part-row zs (suc i) m k (omega arith) (next i m s))

    -- a row is read back where it stands
    pub part-laid : (n i m k : ℕ) → k < m → Short w f i m → part (fill n (laid w (collect f i m))) (w * k) (length (f (i + k))) ≡ f (i + k)
    unfolding fill
    part-laid n i m k h s = part-row (replicate (n - length (laid w (collect f i m))) 0) i m k h s

    pub get_or-laid : (n i m k j : ℕ) → k < m → Short w f i m → j < length (f (i + k))
        → get_or (fill n (laid w (collect f i m))) (w * k + j) 0 ≡ get_or (f (i + k)) j 0
    get_or-laid n i m k j h s l =
        let d = fill n (laid w (collect f i m)) in
        sym (get_or-drop (w * k) d j 0)
        ∙ sym (get_or-take (length (f (i + k))) (drop (w * k) d) j 0 l)
        ∙ ap (λ (x : List ℕ). get_or x j 0) (part-laid n i m k h s)

pub get_or-column : (f : ℕ → ℕ) (n i m k : ℕ) → k < m → get_or (fill n (collect f i m)) k 0 ≡ f (i + k)
get_or-column f n i m k h = get_or-fill n (collect f i m) k (rw length-collect h) ∙ get_or-collect f i m k 0 h
