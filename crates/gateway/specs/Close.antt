-- Document 01: close. "Close: 39, 4." "Close makes a record idle from any state."
use Rattle.std.specs.Prelude.{ℕ, not, [], ◌∷◌}
use Rattle.octets.specs.Checks.{◌when◌, refusal}
use Rattle.state.specs.declared.Rights.{Rights}
use Rattle.state.specs.declared.Records.{Records}
use Rattle.state.specs.Records.{closed}
use Rattle.view.specs.Counted.{no_such}
use Rattle.view.specs.View.{see}
use Rattle.view.specs.declared.View.{View}
use Rattle.gateway.specs.Common.{plain, moved, Changed}

unfoldable pub close_refusal : View → ℕ → ℕ
close_refusal v h = refusal (39 when not v.good ∷ 4 when no_such h v.hosts ∷ [])

-- the answer, and the records after the call
unfoldable pub closing : Rights → Records → ℕ → Changed
closing r s h = record {
  answer = plain (close_refusal (see r s h) h);
  records = moved (close_refusal (see r s h) h) s h closed;
}
