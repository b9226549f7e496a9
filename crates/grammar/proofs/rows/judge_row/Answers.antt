-- `rows::judge_row` meets its contract: kind and id first, then start and length.
use Rattle.grammar.specs.Checks.{identity_checks, place_checks}
use Rattle.grammar.proofs.FaultLaws.{go}
use Rattle.grammar.proofs.rows.judge_row.Goals as goal

pub returns : goal.returns
returns c =
    let a = c.args in
    go (identity_checks a.book.now a.i) (place_checks a.book.now a.i) _ c.in_ok-judge_identity.ensures c.judge_place.ensures
