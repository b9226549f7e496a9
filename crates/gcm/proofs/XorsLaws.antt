-- The exclusive or of two byte strings, as long as both: its length, the strings in parts, byte by byte in place; twice it changes
-- nothing.
use mathlib.Core.Path.{◌≡◌, refl, sym, ap, ap₂, ◌∙◌}
use mathlib.Core.List.{List, [], ◌∷◌, ◌++◌}
use Prim.Native.Nat.{ℕ, zero, suc, ◌≤◌, ◌<◌, min}
use native.Mathlib.Nat.{zero-min, min-zero, suc-min-suc, le_of_suc-le-suc, not-suc-le-zero}
use native.Mathlib.Omega.{arith}
use lib.ListN.{length, get_or, set, take, drop}
use lib.Bits.{bit_xor}
use Rattle.octets.proofs.XorLaws.{xor-twice}
use Rattle.gcm.specs.Gctr.{xors}

pub length-xors : (xs ks : List ℕ) → length (xors xs ks) ≡ min (length xs) (length ks)
unfolding xors
length-xors [] ks = sym (zero-min (length ks))
length-xors (x ∷ xs) [] = sym (min-zero (suc (length xs)))
length-xors (x ∷ xs) (k ∷ ks) = ap suc (length-xors xs ks) ∙ sym (suc-min-suc (length xs) (length ks))

pub xors-nil : (xs : List ℕ) → xors xs [] ≡ []
unfolding xors
xors-nil [] = refl
xors-nil (x ∷ xs) = refl

pub get_or-xors : (xs ks : List ℕ) (i : ℕ) → i < length xs → i < length ks → get_or (xors xs ks) i 0 ≡ bit_xor (get_or xs i 0) (get_or ks i 0)
unfolding xors
get_or-xors [] ks i h k = absurd (not-suc-le-zero h)
get_or-xors (x ∷ xs) [] i h k = absurd (not-suc-le-zero k)
get_or-xors (x ∷ xs) (y ∷ ks) zero h k = refl
get_or-xors (x ∷ xs) (y ∷ ks) (suc i) h k = get_or-xors xs ks i (le_of_suc-le-suc h) (le_of_suc-le-suc k)

-- a stream in two parts
pub xors-append : (xs ks rest : List ℕ) → xors xs (ks ++ rest) ≡ xors xs ks ++ xors (drop (length ks) xs) rest
unfolding xors
xors-append [] [] rest = refl
xors-append [] (k ∷ ks) rest = refl
xors-append (x ∷ xs) [] rest = refl
xors-append (x ∷ xs) (k ∷ ks) rest = ap (λ (l : List ℕ). bit_xor x k ∷ l) (xors-append xs ks rest)

-- of the string as much as the stream has
pub xors-take : (xs ks : List ℕ) (n : ℕ) → min (length xs) (length ks) ≤ n → xors (take n xs) ks ≡ xors xs ks
unfolding xors
xors-take [] ks zero h = refl
xors-take [] ks (suc n) h = refl
xors-take (x ∷ xs) [] zero h = refl
xors-take (x ∷ xs) [] (suc n) h = refl
xors-take (x ∷ xs) (k ∷ ks) zero h = absurd (omega arith)
xors-take (x ∷ xs) (k ∷ ks) (suc n) h = ap (λ (l : List ℕ). bit_xor x k ∷ l) (xors-take xs ks n (omega arith))

-- a text in two parts, the first as long as its stream
pub xors-parts : (xs ks ys ls : List ℕ) → length xs ≡ length ks → xors (xs ++ ys) (ks ++ ls) ≡ xors xs ks ++ xors ys ls
unfolding xors
xors-parts [] [] ys ls e = refl
xors-parts [] (k ∷ ks) ys ls e = absurd (omega arith)
xors-parts (x ∷ xs) [] ys ls e = absurd (omega arith)
xors-parts (x ∷ xs) (k ∷ ks) ys ls e = ap (λ (l : List ℕ). bit_xor x k ∷ l) (xors-parts xs ks ys ls (omega arith))

pub xors-twice : (xs ks : List ℕ) → length xs ≤ length ks → xors (xors xs ks) ks ≡ xs
unfolding xors
xors-twice [] ks h = refl
xors-twice (x ∷ xs) [] h = absurd (not-suc-le-zero h)
xors-twice (x ∷ xs) (k ∷ ks) h = ap₂ (λ (y : ℕ) (l : List ℕ). y ∷ l) (xor-twice x k) (xors-twice xs ks (le_of_suc-le-suc h))

-- ---- in place: the first j bytes are done

abbrev pub half : List ℕ → List ℕ → ℕ → List ℕ
half xs ks zero = xs
half [] ks (suc j) = []
half (x ∷ xs) [] (suc j) = x ∷ xs
half (x ∷ xs) (k ∷ ks) (suc j) = bit_xor x k ∷ half xs ks j

pub half_more : (xs ks : List ℕ) (j : ℕ) → j < length xs → j < length ks
    → set (half xs ks j) j (bit_xor (get_or (half xs ks j) j 0) (get_or ks j 0)) ≡ half xs ks (suc j)
half_more [] ks j h k = absurd (not-suc-le-zero h)
half_more (x ∷ xs) [] j h k = absurd (not-suc-le-zero k)
half_more (x ∷ xs) (y ∷ ks) zero h k = refl
half_more (x ∷ xs) (y ∷ ks) (suc j) h k = ap (λ (l : List ℕ). bit_xor x y ∷ l) (half_more xs ks j (le_of_suc-le-suc h) (le_of_suc-le-suc k))

pub half_all : (xs ks : List ℕ) (j : ℕ) → length xs ≤ j → length xs ≤ length ks → half xs ks j ≡ xors xs ks
unfolding xors
half_all [] ks zero h k = refl
half_all [] ks (suc j) h k = refl
half_all (x ∷ xs) [] j h k = absurd (not-suc-le-zero k)
half_all (x ∷ xs) (y ∷ ks) zero h k = absurd (not-suc-le-zero h)
half_all (x ∷ xs) (y ∷ ks) (suc j) h k = ap (λ (l : List ℕ). bit_xor x y ∷ l) (half_all xs ks j (le_of_suc-le-suc h) (le_of_suc-le-suc k))
