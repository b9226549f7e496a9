-- What the tests of a name say, in plain facts: its letters, and that no row before has its kind and its name. And a word that has no bit at or
-- above a count.
use mathlib.Core.Path.{◌≡◌, refl, sym, ◌∙◌}
use mathlib.Core.Logic.{◌⊎◌, ◌≢◌, inl, ⊎_elim}
use mathlib.Core.Bool.{Bool}
use mathlib.Core.List.{List}
use Prim.Native.Nat.{ℕ, zero, suc, ◌+◌, ◌/◌, ◌%◌, ◌^◌, ◌≤◌, ◌<◌}
use native.Mathlib.Nat.{div-eq_of_lt, div-div-eq-div-mul, eq-or-lt_of_le, le_of_suc-le-suc, pow-succ'}
use native.Mathlib.Omega.{arith}
use borrow.Author.Tests.{eq-eqb, ltb-true}
use lib.Arith.{bin_ind}
use lib.Dec.{ltb}
use lib.ListN.{length, get_or}
use lib.Pow.{pow-add, pow_mono}
use Rattle.octets.proofs.RangeLaws.{shifted}
use Rattle.layout.specs.Layout.{kind, name}
use Rattle.grammar.specs.Names.{letter, inner_space, fitting}
use Rattle.grammar.specs.Checks.{used_below}
use Rattle.promises.specs.BookFacts.{IsLetter, MayStand}
use Rattle.promises.specs.Stands.{BitSet}
use Rattle.promises.proofs.WhenLaws.{When, Unless, when-equal, when-below, when-between, when-same, when-and, when-three, when-or, when-by}
use Rattle.promises.proofs.WhenLaws.{unless-or, unless-fact, unless-by}

-- ---- letters

-- a last test of a choice
when-last : {t : Bool} {F : Type 0} → When t F → When t (F ⊎ ⊥)
when-last w = when-by inl (⊎_elim (λ x. x) (λ y. absurd y)) w

when-letter : (c : ℕ) → When (letter c) (IsLetter c)
unfolding letter
when-letter c =
    when-or (when-between 65 90 c) (when-or (when-between 97 122 c) (when-or (when-between 48 57 c)
    (when-or (when-equal c 45) (when-or (when-equal c 95) (when-or (when-equal c 43) (when-or (when-equal c 46) (when-last (when-equal c 47))))))))

pub when-fitting : (s : List ℕ) (k c m : ℕ) → get_or s k 0 ≡ c → length s ≡ m → When (fitting s k) (MayStand c k m)
unfolding fitting inner_space
when-fitting s k c m e l = rw (e, l) (when-or (when-letter c) (when-three (when-equal c 32) (when-below 0 k) (when-below (suc k) m)))

-- ---- names used before

module _ (b : List ℕ) (i : ℕ) where
  -- row j has another kind, or another name
  abbrev Unlike : ℕ → Type 0
  Unlike j = kind b j ≡ kind b i → name b j ≢ name b i

  abbrev Same : ℕ → Type 0
  Same j = (kind b j ≡ kind b i) × (name b j ≡ name b i)

  pub unless-used : (n : ℕ) → Unless (used_below b i n) ((j : ℕ) → j < n → Unlike j)
  unfolding used_below
  unless-used zero = record { says = λ e j l. absurd (omega arith); said = λ h. refl }
  unless-used (suc n) = unless-by all parts (unless-or (unless-used n) (unless-fact (when-and (when-equal _ _) (when-same _ _)))) where
    all : ((j : ℕ) → j < n → Unlike j) × (¬ Same n) → (j : ℕ) → j < suc n → Unlike j
    all h j l k e = ⊎_elim (λ q. h.1 (rw q at k, rw q at e)) (λ m. h.0 j m k e) (eq-or-lt_of_le (le_of_suc-le-suc l))

    parts : ((j : ℕ) → j < suc n → Unlike j) → ((j : ℕ) → j < n → Unlike j) × (¬ Same n)
    parts h = (λ j l. h j (omega arith), λ e. h n (omega arith) e.0 e.1)

-- ---- words

-- no bit of a number is 1 just where it is 0
bits_none : (v : ℕ) → ((k : ℕ) → ¬ BitSet k v) → v ≡ 0
bits_none = bin_ind (λ (v : ℕ). ((k : ℕ) → ¬ BitSet k v) → v ≡ 0) (λ h. refl) halve where
  halve : (v : ℕ) → (((k : ℕ) → ¬ BitSet k (v / 2)) → v / 2 ≡ 0) → ((k : ℕ) → ¬ BitSet k v) → v ≡ 0
  halve v ih h =
      let high : v / 2 ≡ 0 = ih (λ k e. h (suc k) (rw (pow-succ' 2 k, ← div-div-eq-div-mul v 2 (2 ^ k)) e)) in
      let low : v / 2 ^ 0 % 2 ≢ 1 = h 0 in
      omega arith

module _ (w c : ℕ) where
  below_none : w < 2 ^ c → (k : ℕ) → c ≤ k → ¬ BitSet k w
  below_none l k h e = let z = div-eq_of_lt {n = w} {m = 2 ^ k} (omega (arith, pow_mono h)) in no (rw z at e) where
    no : 0 % 2 ≢ 1
    no e = omega arith

  none_below : ((k : ℕ) → c ≤ k → ¬ BitSet k w) → w < 2 ^ c
  none_below h =
      let z : w / 2 ^ c ≡ 0 =
      bits_none (w / 2 ^ c) (λ k e. h (c + k) (omega arith) (rw (pow-add 2 c k, ← div-div-eq-div-mul w (2 ^ c) (2 ^ k)) e)) in
      ltb-true w (2 ^ c) (sym (shifted w c) ∙ eq-eqb (w / 2 ^ c) 0 z)

  pub when-low : When (ltb w (2 ^ c)) ((k : ℕ) → c ≤ k → ¬ BitSet k w)
  when-low = when-by below_none none_below (when-below w (2 ^ c))
