-- Tests and facts: a test that holds just when a fact does, and one that holds just unless it does.
use mathlib.Core.Path.{◌≡◌, refl, sym, ◌∙◌}
use mathlib.Core.Logic.{◌⊎◌, ◌≢◌, inl, inr}
use mathlib.Core.Bool.{Bool, true, false, not, ◌&&◌, ◌||◌, true≢false, false≢true}
use mathlib.Core.List.{List, ◌∷◌}
use Prim.Native.Nat.{ℕ, ◌≤◌, ◌<◌}
use native.Mathlib.Omega.{arith}
use borrow.Author.Tests.{not-false, eqb-true, eqb-false, eq-eqb, ne_eqb, ltb-true, ltb-false, lt-ltb, le-ltb, leb-false, lt-leb}
use lib.Dec.{eqb, ltb, leb}
use Rattle.octets.specs.Checks.{pick}
use Rattle.octets.specs.Range.{between}
use Rattle.octets.specs.Same.{same}
use Rattle.octets.proofs.CheckLaws.{and_left, and_right, and_both}
use Rattle.octets.proofs.RangeLaws.{between-both, both-between}
use Rattle.octets.proofs.SameLaws.{same_true, same_refl}
use Rattle.grammar.proofs.TestLaws.{or_right}
use Rattle.promises.specs.Rules.{Rule, ◌unless◌, Gives}
use Rattle.promises.proofs.RuleLaws.{row}

pub record When (t : Bool) (F : Type 0) : Type 0 where
  pub says : t ≡ true → F
  pub said : F → t ≡ true

pub record Unless (t : Bool) (F : Type 0) : Type 0 where
  pub says : t ≡ false → F
  pub said : F → t ≡ false

-- ---- the tests of numbers and byte strings

module _ (a b : ℕ) where
  pub when-equal : When (eqb a b) (a ≡ b)
  when-equal = record { says = eqb-true a b; said = eq-eqb a b }

  pub when-below : When (ltb a b) (a < b)
  when-below = record { says = ltb-true a b; said = lt-ltb a b }

  pub unless-equal : Unless (eqb a b) (a ≢ b)
  unless-equal = record { says = eqb-false a b; said = ne_eqb a b }

  pub unless-below : Unless (ltb a b) (b ≤ a)
  unless-below = record { says = ltb-false a b; said = le-ltb a b }

  pub unless-upto : Unless (leb a b) (b < a)
  unless-upto = record { says = leb-false a b; said = lt-leb a b }

pub unless-zero : (n : ℕ) → Unless (eqb n 0) (1 ≤ n)
unless-zero n = record { says = λ e. let z : n ≢ 0 = eqb-false n 0 e in omega arith; said = λ l. ne_eqb n 0 (λ z. omega arith) }

pub when-between : (lo hi v : ℕ) → When (between lo hi v) ((lo ≤ v) × (v ≤ hi))
when-between lo hi v = record { says = between-both lo hi v; said = both-between lo hi v }

pub when-same : (x y : List ℕ) → When (same x y) (x ≡ y)
when-same x y = record { says = same_true x y; said = λ e. rw e (same_refl y) }

-- ---- tests of tests

pub when-never : When false ⊥
when-never = record { says = false≢true; said = λ x. absurd x }

module _ {t : Bool} {F : Type 0} where
  pub unless_not : When t F → Unless (not t) F
  unless_not w = record { says = λ e. w.says (not-false t e); said = λ x. rw (w.said x) }

  module _ {u : Bool} {G : Type 0} where
    pub when-and : When t F → When u G → When (t && u) (F × G)
    when-and v w = record {
      says = λ e. (v.says (and_left t u e), w.says (and_right t u e));
      said = λ x. and_both t u (v.said x.0) (w.said x.1);
    }

    pub when-three : {v : Bool} {H : Type 0} → When t F → When u G → When v H → When (t && (u && v)) (F × G × H)
    when-three {v} f g h = record {
      says = λ e. let r = and_right t (u && v) e in (f.says (and_left t (u && v) e), g.says (and_left u v r), h.says (and_right u v r));
      said = λ x. and_both t (u && v) (f.said x.0) (and_both u v (g.said x.1) (h.said x.2));
    }

    pub when-or : When t F → When u G → When (t || u) (F ⊎ G)
    when-or v w = record { says = either t refl; said = choose } where
      either : (x : Bool) → t ≡ x → (x || u) ≡ true → F ⊎ G
      either true e q = inl (v.says e)
      either false e q = inr (w.says q)

      choose : F ⊎ G → (t || u) ≡ true
      choose (inl x) = rw (v.said x)
      choose (inr y) = or_right t u (w.said y)

    pub unless-or : Unless t F → Unless u G → Unless (t || u) (F × G)
    unless-or v w = record { says = both t refl; said = λ x. rw (v.said x.0) (w.said x.1) } where
      both : (x : Bool) → t ≡ x → (x || u) ≡ false → F × G
      both true e q = absurd (true≢false q)
      both false e q = (v.says e, w.says q)

    -- one fact follows from another
    pub unless-implied : When t F → When u G → Unless (t && not u) (F → G)
    unless-implied v w = record { says = λ e x. w.says (not-false u (rw (v.said x) at e)); said = λ f. follow f t refl } where
      follow : (F → G) → (x : Bool) → t ≡ x → (x && not u) ≡ false
      follow f true e = rw (w.said (f (v.says e)))
      follow f false e = refl

  pub unless-fact : When t F → Unless t (¬ F)
  unless-fact w = record { says = λ e x. true≢false (sym (w.said x) ∙ e); said = by t refl } where
    by : (x : Bool) → t ≡ x → ¬ F → x ≡ false
    by true e n = absurd (n (w.says e))
    by false e n = refl

  module _ {G : Type 0} where
    pub when-by : (F → G) → (G → F) → When t F → When t G
    when-by f g w = record { says = λ e. f (w.says e); said = λ y. w.said (g y) }

    pub unless-by : (F → G) → (G → F) → Unless t F → Unless t G
    unless-by f g w = record { says = λ e. f (w.says e); said = λ y. w.said (g y) }

-- ---- a row of a table and its rule

pub row_by : {F : Type 0} (rs : List Rule) (m : ℕ) (t : Bool) (k : ℕ) → Unless t F → (F → Gives rs k) → Gives ((m unless F) ∷ rs) (pick t m k)
row_by rs m t k w g = row rs m t k w.said (λ e. let x = w.says e in (x, g x))
