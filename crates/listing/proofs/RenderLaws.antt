-- What `render` hands back is settled by its number and its length.
use Rattle.std.proofs.Common.{◌≡◌, ℕ, Result, Ok, Err, ap, sym}
use Rattle.std.specs.Result.{result_unwrap_or}
use Rattle.refusal.specs.declared.Refusal.{Refusal}
use Rattle.refusal.specs.Numbers.{number_of}
use Rattle.refusal.proofs.NumberLaws.{above-zero, refusal-one}

pub rendered-one : (x y : Result ℕ Refusal) → number_of x ≡ number_of y → result_unwrap_or x 0 ≡ result_unwrap_or y 0 → x ≡ y
rendered-one (Ok n) (Ok m) e l = ap Ok l
rendered-one (Ok n) (Err s) e l = absurd (above-zero s (sym e))
rendered-one (Err r) (Ok m) e l = absurd (above-zero r e)
rendered-one (Err r) (Err s) e l = ap Err (refusal-one r s e)
