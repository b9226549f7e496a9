-- Lists by their elements: sixteen elements are a state.
use mathlib.Core.Path.{◌≡◌, refl, ap, sym, ◌∙◌}
use mathlib.Core.List.{List, [], ◌∷◌}
use Prim.Native.Nat.{ℕ, zero, suc, ◌<◌}
use native.Mathlib.Omega.{arith}
use lib.ListN.{length, get_or}
use Rattle.aes.specs.State.{cell, state}

-- f 0, f 1, .. f (n - 1)
abbrev pub firsts : (ℕ → ℕ) → ℕ → List ℕ
firsts f zero = []
firsts f (suc n) = f 0 ∷ firsts (λ (i : ℕ). f (suc i)) n

firsts-all : (s : List ℕ) → firsts (λ (i : ℕ). get_or s i 0) (length s) ≡ s
firsts-all [] = refl
firsts-all (x ∷ s) = ap (λ (l : List ℕ). x ∷ l) (firsts-all s)

pub firsts_same : (f g : ℕ → ℕ) (n : ℕ) → ((i : ℕ) → i < n → f i ≡ g i) → firsts f n ≡ firsts g n
firsts_same f g zero h = refl
firsts_same f g (suc n) h =
    let here : f 0 ≡ g 0 = h 0 (omega arith) in
    let rest : firsts (λ (i : ℕ). f (suc i)) n ≡ firsts (λ (i : ℕ). g (suc i)) n = firsts_same _ _ n (λ i k. h (suc i) (omega arith)) in
    λ t. here t ∷ rest t

pub sixteen : (s : List ℕ) → length s ≡ 16 → state (cell s) ≡ s
sixteen s e = ap (firsts (λ (i : ℕ). get_or s i 0)) (sym e) ∙ firsts-all s
