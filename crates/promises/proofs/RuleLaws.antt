-- Facts in an order: what the number that is given says of them.
use mathlib.Core.Path.{◌≡◌, refl, sym, ◌∙◌}
use mathlib.Core.Logic.{inl, inr}
use mathlib.Core.Bool.{Bool, true, false, not, ◌&&◌, true≢false, false≢true}
use mathlib.Core.List.{List, [], ◌∷◌, ◌++◌}
use Prim.Native.Nat.{ℕ, zero, suc}
use native.Mathlib.Omega.{arith}
use Rattle.octets.specs.Checks.{pick, ◌then◌, is_zero}
use Rattle.promises.specs.Among.{Listed}
use Rattle.promises.specs.Rules.{Rule, ◌unless◌, Hold, Gives}

-- every number is above 0, so that 0 means that all facts hold
abbrev pub counted : List Rule → Bool
counted [] = true
counted ((m unless F) ∷ rs) = not (is_zero m) && counted rs

-- a row and its fact: the fact holds just where the row's test doesn't
pub row : {F : Type 0} (rs : List Rule) (m : ℕ) (t : Bool) (k : ℕ) → (F → t ≡ false) → (t ≡ false → F × Gives rs k)
    → Gives ((m unless F) ∷ rs) (pick t m k)
row rs m true k f g = inl (λ x. true≢false (f x), refl)
row rs m false k f g = inr (g refl)

-- stages: those after the first are looked at where all its facts hold
pub stages : (rs qs : List Rule) (n k : ℕ) → counted rs ≡ true → Gives rs n → (Hold rs → Gives qs k) → Gives (rs ++ qs) (n then k)
stages [] qs n k c h g = rw h (g tt)
stages ((zero unless F) ∷ rs) qs n k c h g = absurd (false≢true c)
stages ((suc m unless F) ∷ rs) qs n k c (inl h) g = inl (h.0, rw h.1)
stages ((suc m unless F) ∷ rs) qs n k c (inr h) g = inr (h.0, stages rs qs n k c h.1 (λ x. g (h.0, x)))

-- 0 is given just where all facts hold
pub zero-hold : (rs : List Rule) → counted rs ≡ true → Gives rs 0 → Hold rs
zero-hold [] c h = tt
zero-hold ((zero unless F) ∷ rs) c h = absurd (false≢true c)
zero-hold ((suc m unless F) ∷ rs) c (inl h) = absurd (omega (arith, h.1))
zero-hold ((suc m unless F) ∷ rs) c (inr h) = (h.0, zero-hold rs c h.1)

pub hold-zero : (rs : List Rule) (n : ℕ) → Hold rs → Gives rs n → n ≡ 0
hold-zero [] n h g = g
hold-zero ((m unless F) ∷ rs) n h (inl g) = absurd (g.0 h.0)
hold-zero ((m unless F) ∷ rs) n h (inr g) = hold-zero rs n h.1 g.1

-- where the facts before it hold and it fails, its number is given
pub fails : {F : Type 0} (rs : List Rule) (m : ℕ) (qs : List Rule) (n : ℕ) → Hold rs → ¬ F → Gives (rs ++ (m unless F) ∷ qs) n → n ≡ m
fails [] m qs n h d (inl g) = g.1
fails [] m qs n h d (inr g) = absurd (d g.0)
fails ((k unless G) ∷ rs) m qs n h d (inl g) = absurd (g.0 h.0)
fails ((k unless G) ∷ rs) m qs n h d (inr g) = fails rs m qs n h.1 d g.1

-- where it fails, its number or one before it is given
abbrev pub numbers_of : List Rule → List ℕ
numbers_of [] = []
numbers_of ((m unless F) ∷ rs) = m ∷ numbers_of rs

pub fails-listed : {F : Type 0} (rs : List Rule) (m : ℕ) (qs : List Rule) (n : ℕ) → ¬ F → Gives (rs ++ (m unless F) ∷ qs) n
    → Listed (numbers_of rs ++ m ∷ []) n
fails-listed [] m qs n d (inl g) = inl g.1
fails-listed [] m qs n d (inr g) = absurd (d g.0)
fails-listed ((k unless G) ∷ rs) m qs n d (inl g) = inl g.1
fails-listed ((k unless G) ∷ rs) m qs n d (inr g) = inr (fails-listed rs m qs n d g.1)

-- facts in two parts
pub hold-append : (rs qs : List Rule) → Hold rs → Hold qs → Hold (rs ++ qs)
hold-append [] qs h k = k
hold-append ((m unless F) ∷ rs) qs h k = (h.0, hold-append rs qs h.1 k)

pub hold-first : (rs qs : List Rule) → Hold (rs ++ qs) → Hold rs
hold-first [] qs h = tt
hold-first ((m unless F) ∷ rs) qs h = (h.0, hold-first rs qs h.1)

-- an order of facts gives one number
pub gives-one : (rs : List Rule) (n k : ℕ) → Gives rs n → Gives rs k → n ≡ k
gives-one [] n k g h = g ∙ sym h
gives-one ((m unless F) ∷ rs) n k (inl g) (inl h) = g.1 ∙ sym h.1
gives-one ((m unless F) ∷ rs) n k (inl g) (inr h) = absurd (g.0 h.0)
gives-one ((m unless F) ∷ rs) n k (inr g) (inl h) = absurd (h.0 g.0)
gives-one ((m unless F) ∷ rs) n k (inr g) (inr h) = gives-one rs n k g.1 h.1
