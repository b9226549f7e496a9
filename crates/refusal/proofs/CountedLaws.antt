-- What a judge's refusal becomes where a call hands it on.
use mathlib.Core.Path.{◌≡◌}
use Rattle.std.specs.Prelude.{ℕ, Result, Ok, Err}
use Rattle.std.specs.Result.{MatchResult, IsErrAnd}
use Rattle.refusal.specs.declared.Refusal.{Refusal}
use Rattle.refusal.specs.declared.Refused.{Refused}
use Rattle.refusal.specs.Numbers.{refusal_number, number_of}

-- `judge(..).map_err(|why| Refused { why, blocks })?`, from what `map_err` ensures: Q is what its closure does
pub counted : (j : Result Unit Refusal) (m : Result Unit Refused) (d : Refused) (k : ℕ) (Q : Refusal → Refused → Type 0)
    → ((w : Refusal) (r : Refused) → Q w r → r ≡ record { why = w; blocks = k })
    → MatchResult j (λ u. m ≡ Ok u) (λ w. IsErrAnd m (λ r. Q w r)) → m ≡ Err d
    → (number_of j ≡ refusal_number d.why) × (d.blocks ≡ k)
counted (Ok u) m d k Q f h e = cc
counted (Err w) (Ok u) d k Q f h e = cc
counted (Err w) (Err r) d k Q f h e =
    let q : r ≡ d = cc in
    let x = f w r h in
    (cc, cc)
