-- The S-box follows its rule, and what the rule calls the inverse is one: by one test that antt computes over the whole table,
-- and one law, `at`, that carries it to each entry.
use mathlib.Core.Path.{◌≡◌, ◌∙◌, subst, sym, refl}
use mathlib.Core.Bool.{Bool, true, false}
use mathlib.Core.List.{List, [], ◌∷◌}
use Prim.Native.Nat.{ℕ, zero, suc, ◌+◌, ◌<◌}
use native.Mathlib.Nat.{add-zero, zero-add, add-suc, suc-add, le_of_suc-le-suc, not-suc-le-zero}
use native.Mathlib.Omega.{arith}
use lib.Dec.{T, eqb, eqb→eq}
use lib.ListN.{length, get_or}
use Rattle.aes.specs.Field.{◌•◌, product, squares, inverse}
use Rattle.aes.specs.Sbox.{table, sbox, turned, affine, sbox_rule}

abbrev both : Bool → Bool → Bool
both true b = b
both false b = false

both_left : (a b : Bool) → T (both a b) → T a
both_left true b t = tt
both_left false b t = t

both_right : (a b : Bool) → T (both a b) → T b
both_right true b t = t
both_right false b t = absurd t

-- the test f passes at each entry of the list and its place, counted from i
abbrev every : (ℕ → ℕ → Bool) → ℕ → List ℕ → Bool
every f i [] = true
every f i (x ∷ xs) = both (f i x) (every f (suc i) xs)

from : (f : ℕ → ℕ → Bool) (xs : List ℕ) (i : ℕ) → T (every f i xs) → (k : ℕ) → k < length xs → T (f (i + k) (get_or xs k 0))
from f [] i t k h = absurd (not-suc-le-zero h)
from f (x ∷ xs) i t zero h = subst (λ (m : ℕ). T (f m x)) (sym (add-zero i)) (both_left (f i x) (every f (suc i) xs) t)
from f (x ∷ xs) i t (suc k) h =
    subst (λ (m : ℕ). T (f m (get_or xs k 0))) (suc-add i k ∙ sym (add-suc i k))
    (from f xs (suc i) (both_right (f i x) (every f (suc i) xs) t) k (le_of_suc-le-suc h))

at : (f : ℕ → ℕ → Bool) (xs : List ℕ) → T (every f 0 xs) → (k : ℕ) → k < length xs → T (f k (get_or xs k 0))
at f xs t k h = subst (λ (m : ℕ). T (f m (get_or xs k 0))) (zero-add k) (from f xs 0 t k h)

-- the product of a byte with its inverse: 0 for 0, and 1 for every other byte
one : ℕ → ℕ
one zero = 0
one (suc n) = 1

-- the test, of a byte b, its entry x and its inverse i
right : ℕ → ℕ → ℕ → Bool
right b x i = both (eqb x (affine i)) (eqb (b • i) (one b))

tested : ℕ → ℕ → Bool
tested b x = right b x (inverse b)

whole : T (every tested 0 table)
unfolding table tested right one affine inverse squares ◌•◌ product turned
whole = tt

each : (b : ℕ) → b < 256 → T (both (eqb (sbox b) (sbox_rule b)) (eqb (b • inverse b) (one b)))
unfolding sbox table tested right sbox_rule
each b h = at tested table whole b h

pub sbox-rule : (b : ℕ) → b < 256 → sbox b ≡ sbox_rule b
sbox-rule b h = eqb→eq (sbox b) (sbox_rule b) (both_left (eqb (sbox b) (sbox_rule b)) (eqb (b • inverse b) (one b)) (each b h))

product-one : (b : ℕ) → b < 256 → b • inverse b ≡ one b
product-one b h = eqb→eq (b • inverse b) (one b) (both_right (eqb (sbox b) (sbox_rule b)) (eqb (b • inverse b) (one b)) (each b h))

pub inverse-right : (b : ℕ) → 0 < b → b < 256 → b • inverse b ≡ 1
unfolding one
inverse-right zero p h = omega arith
inverse-right (suc n) p h = product-one (suc n) h

pub inverse-zero : inverse 0 ≡ 0
unfolding inverse squares ◌•◌ product
inverse-zero = refl
