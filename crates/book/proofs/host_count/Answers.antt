use Rattle.std.proofs.Common.{◌≡◌, ◌≢◌, rules, refl, ap, ◌∙◌, arith}
use Rattle.layout.specs.Layout.{kind, hosts_before}
use Rattle.layout.specs.Kinds.{kind_of}
use Rattle.layout.specs.declared.kinds.Kind.TheVariants.{Host}
use Rattle.layout.proofs.KindLaws.{host-one, one-host}
use Rattle.book.specs.Contents.{host_count}
use Rattle.book.proofs.RowLaws.{hosts-most, hosts-host, hosts-other}
use Rattle.book.proofs.host_count.Goals as goal
use Rattle.book.proofs.host_count.Goals.{then-eq, else-eq}

pub loop-i-init : goal.loop-i-init
unfolding hosts_before
loop-i-init c = refl

pub overflow_add-hosts : goal.overflow_add-hosts
overflow_add-hosts c = omega (arith, hosts-most c.args.book.now c.loop-i.i)

pub loop-i-preserved : goal.loop-i-preserved
loop-i-preserved c =
    let b = c.args.book.now in
    elim c.if-eq.branch [
      | then-eq w ↦
          let e : kind_of (kind b c.loop-i.i) ≡ Host = search rules in
          omega (arith, c.loop-i.invariant, hosts-host b c.loop-i.i (host-one (kind b c.loop-i.i) e))
      | else-eq w ↦
          let e : kind_of (kind b c.loop-i.i) ≢ Host = search rules in
          omega (arith, c.loop-i.invariant, hosts-other b c.loop-i.i (λ q. e (one-host (kind b c.loop-i.i) q)))
    ]

pub returns : goal.returns
unfolding host_count
returns c =
    let e : c.loop-i.i ≡ c.rows-i-end.result = omega arith in
    c.loop-i.invariant ∙ ap (hosts_before c.args.book.now) (e ∙ c.rows-i-end.ensures)
