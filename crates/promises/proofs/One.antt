-- The law by which every contract settles what it speaks of: two things that are each the same third are the same.
use mathlib.Core.Path.{◌≡◌, sym, ◌∙◌}

pub one : {A : Type 0} {x y a : A} → x ≡ a → y ≡ a → x ≡ y
one p q = p ∙ sym q

module _ {A B : Type 0} {x y a : A} {d e b : B} where
  -- the law for a contract in two parts
  pub both : (x ≡ a) × (d ≡ b) → (y ≡ a) × (e ≡ b) → (x ≡ y) × (d ≡ e)
  both p q = (one p.0 q.0, one p.1 q.1)

  -- and for one that has the result last
  pub turned : (d ≡ b) × (x ≡ a) → (e ≡ b) × (y ≡ a) → (x ≡ y) × (d ≡ e)
  turned p q = (one p.1 q.1, one p.0 q.0)

-- and for a result that the contract speaks of through a reading, which is the same of two results only if they are
module _ {A B : Type 0} {reads : A → B} (only : (x y : A) → reads x ≡ reads y → x ≡ y) {x y : A} {a : B} where
  pub read : reads x ≡ a → reads y ≡ a → x ≡ y
  read p q = only x y (one p q)

  pub read-both : {C : Type 0} {d e b : C} → (reads x ≡ a) × (d ≡ b) → (reads y ≡ a) × (e ≡ b) → (x ≡ y) × (d ≡ e)
  read-both p q = (read p.0 q.0, one p.1 q.1)
