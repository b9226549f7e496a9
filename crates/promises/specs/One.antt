-- Document 01, "What the proofs settle": "Each public function's promise settles the number, count, state and every lent byte for all inputs; two
-- results allowed by it are proved equal".
-- L is a contract as the check reads it out of the source (`Reads.Learnt` of its function), so that no theorem over it can part from an `ensures`:
-- what it tells of a call with the arguments a, of its result x, and of d, its parameters at exit. κs are the lifetimes of what is lent.
use Rattle.std.specs.Prelude.{◌≡◌, List, ℕ}

module _ {K : Type 0} {A X E : K → Type 0} (L : (κs : K) → A κs → X κs → E κs → Type 0) where
  -- two outcomes that L allows of one call agree: the results x and y, and the parameters at exit d and e
  abbrev pub Settles : ((κs : K) → X κs → X κs → E κs → E κs → Type 0) → Type 0
  Settles agree = (κs : K) (a : A κs) (x y : X κs) (d e : E κs) → L κs a x d → L κs a y e → agree κs x y d e

  -- their results are equal
  abbrev pub SettlesResult : Type 0
  SettlesResult = Settles (λ κs x y d e. x ≡ y)

  -- the bytes held by what was lent are, where the function has no result
  abbrev pub SettlesLent : ((κs : K) → E κs → List ℕ) → Type 0
  SettlesLent held = Settles (λ κs x y d e. held κs d ≡ held κs e)

  -- both are
  abbrev pub SettlesBoth : ((κs : K) → E κs → List ℕ) → Type 0
  SettlesBoth held = Settles (λ κs x y d e. (x ≡ y) × (held κs d ≡ held κs e))
