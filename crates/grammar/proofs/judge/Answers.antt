-- `judge` meets its contract: the head, then row by row, then body by body.
use mathlib.Core.Path.{refl}
use mathlib.Core.List.{◌++◌}
use Rattle.std.specs.Prelude.{Ok, Err}
use Rattle.layout.specs.Layout.{rows}
use Rattle.grammar.specs.Faults.{each}
use Rattle.grammar.specs.Checks.{head_checks, row_checks, fault_of}
use Rattle.grammar.proofs.FaultLaws.{stop, go}
use Rattle.grammar.proofs.judge.Goals as goal

pub returns-in_err-judge_head : goal.returns-in_err-judge_head
unfolding fault_of
returns-in_err-judge_head c =
    let b = c.args.book.now in
    let r = each (row_checks b) 0 (rows b) in
    let f = c.in_err-judge_head.field-0.0 in
    stop (head_checks b ++ r) _ _ f c.from_residual.ensures.1 (stop (head_checks b) r (Err f) f refl c.in_err-judge_head.ensures)

pub returns-in_err-judge_rows : goal.returns-in_err-judge_rows
unfolding fault_of
returns-in_err-judge_rows c =
    let b = c.args.book.now in
    let r = each (row_checks b) 0 (rows b) in
    let f = c.in_err-judge_rows.field-0.0 in
    stop (head_checks b ++ r) _ _ f c.from_residual-in_err-judge_rows.ensures.1
    (go (head_checks b) r (Err f) c.in_ok-judge_head.ensures (rw c.rows-n.ensures at c.in_err-judge_rows.ensures))

pub returns : goal.returns
unfolding fault_of
returns c =
    let b = c.args.book.now in
    let r = each (row_checks b) 0 (rows b) in
    go (head_checks b ++ r) _ _ (go (head_checks b) r (Ok tt) c.in_ok-judge_head.ensures (rw c.rows-n.ensures at c.in_ok-judge_rows.ensures))
    (rw c.rows-n.ensures at c.judge_bodies.ensures)
