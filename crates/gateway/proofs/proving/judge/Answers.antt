-- `proving::judge`: a host that doesn't pass decides.
use mathlib.Core.Path.{refl, sym, ◌∙◌}
use mathlib.Core.Bool.{not}
use mathlib.Core.List.{[], ◌∷◌}
use Rattle.std.proofs.lemmas.Result.{err_from_is_err_and}
use Rattle.octets.specs.Checks.{◌when◌, refusal}
use Rattle.octets.proofs.CheckLaws.{refusal-append, then-stop}
use Rattle.refusal.proofs.NumberLaws.{above-zero}
use Rattle.view.specs.Counted.{no_such}
use Rattle.gateway.specs.Close.{close_refusal}
use Rattle.gateway.specs.Proof.{proof_refusal}
use Rattle.gateway.proofs.ProofLaws.{proof_rows}
use Rattle.gateway.proofs.proving.judge.Goals as goal

pub returns-in_err-judge_host : goal.returns-in_err-judge_host
unfolding close_refusal proof_refusal
returns-in_err-judge_host c =
    let a = c.args in
    let p = err_from_is_err_and c.from_residual.result c.from_residual.ensures.1 in
    let r = c.in_err-judge_host.field-0.0 in
    let rows = proof_rows a.v a.proof.now a.room in
    rw (p.1, p.2)
    (then-stop _ _ (refusal rows) c.in_err-judge_host.ensures (λ e. above-zero r e) ∙ sym (refusal-append (39 when not a.v.good ∷ 4 when no_such a.host a.v.hosts ∷ []) rows refl))
