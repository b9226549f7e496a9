-- `bodies::judge_body` meets its contract: of an interface its own checks first, then the name.
use mathlib.Core.Path.{◌≡◌, sym, ◌∙◌}
use mathlib.Core.Logic.{◌≢◌}
use borrow.Author.Rules.{rules}
use borrow.Author.Tests.{eq-eqb, ne_eqb}
use Rattle.layout.specs.declared.kinds.Kind.TheVariants.{Host}
use Rattle.layout.proofs.KindLaws.{host-one, one-host}
use Rattle.grammar.specs.Checks.{body_checks}
use Rattle.grammar.proofs.FaultLaws.{stop, go}
use Rattle.grammar.proofs.bodies.judge_body.Goals as goal
use Rattle.grammar.proofs.bodies.judge_body.Goals.{then-ne+in_ok-judge_interface, else-ne}

pub returns-in_err-judge_interface : goal.returns-in_err-judge_interface
unfolding body_checks
returns-in_err-judge_interface c =
    let k : c.kind.result ≢ Host = search (rules, c.if-ne.ensures) in
    rw (ne_eqb _ 1 (λ e. k (c.kind.ensures ∙ one-host _ e))) (stop _ _ _ _ c.from_residual.ensures.1 c.in_err-judge_interface.ensures)

pub returns : goal.returns
unfolding body_checks
returns c = elim c.if-ne.branch [
  | then-ne+in_ok-judge_interface w ↦ let k : c.kind.result ≢ Host = search (rules, w.if-ne.ensures) in
      rw (ne_eqb _ 1 (λ e. k (c.kind.ensures ∙ one-host _ e))) (go _ _ _ w.in_ok-judge_interface.ensures c.judge_name.ensures)
  | else-ne w ↦ let k : c.kind.result ≡ Host = search (rules, w.if-ne.ensures) in
      rw (eq-eqb _ 1 (host-one _ (sym c.kind.ensures ∙ k))) c.judge_name.ensures
]
