use mathlib.Core.Path.{◌≡◌, sym, ap, ◌∙◌}
use mathlib.Core.Logic.{◌≢◌}
use borrow.Author.Rules.{rules}
use Rattle.layout.specs.declared.kinds.Kind.TheVariants.{Host}
use Rattle.layout.proofs.KindLaws.{host-one, one-host}
use Prim.Native.Nat.{ℕ, ◌+◌}
use native.Mathlib.Omega.{arith}
use Rattle.grammar.proofs.FaultLaws.{left-more, left-stop}
use Rattle.grammar.proofs.HostLaws.{hosts-host, hosts-other, hosts-le}
use Rattle.grammar.proofs.rows.judge_rows.Goals as goal
use Rattle.grammar.proofs.rows.judge_rows.Goals.{then-eq, else-eq}

pub returns-in_err-judge_row : goal.returns-in_err-judge_row
returns-in_err-judge_row c =
    left-stop _ _ _ c.loop-i.invariant.0 (omega arith) _ _ c.from_residual.ensures.1 c.in_err-judge_row.ensures

pub overflow_add-hosts : goal.overflow_add-hosts
overflow_add-hosts c =
    omega (arith, c.loop-i.invariant.1, hosts-le c.args.book.now c.loop-i.i)

pub loop-i-preserved : goal.loop-i-preserved
loop-i-preserved c =
    let b = c.args.book.now in (
      left-more _ _ _ c.loop-i.invariant.0 (omega arith) c.in_ok-judge_row.ensures,
      elim c.if-eq.branch [
        | then-eq w ↦ let k : c.kind.result ≡ Host = search (rules, w.if-eq.ensures) in
            w.hosts-is ∙ ap (λ (h : ℕ). h + 1) c.loop-i.invariant.1 ∙ sym (hosts-host b c.loop-i.i (host-one _ (sym c.kind.ensures ∙ k)))
        | else-eq w ↦ let k : c.kind.result ≢ Host = search (rules, w.if-eq.ensures) in
            w.hosts-is ∙ c.loop-i.invariant.1 ∙ sym (hosts-other b c.loop-i.i (λ e. k (c.kind.ensures ∙ one-host _ e)))
      ],
    )
