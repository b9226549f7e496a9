-- `engine::dq_gcm_open` meets its contract: each arm of the match hands out its number and count.
use mathlib.Core.Path.{ap, ◌∙◌}
use Rattle.gcm.specs.Answers.{open_number, open_blocks}
use Rattle.engine.proofs.dq_gcm_open.Goals as goal

pub returns-in-Ok : goal.returns-in-Ok
unfolding open_number open_blocks
returns-in-Ok c =
    let plain = c.in-Ok.ensures in
    (ap open_number plain.0, ap open_blocks plain.0, plain.1)

pub returns-in-Err-Short : goal.returns-in-Err-Short
unfolding open_number open_blocks
returns-in-Err-Short c =
    let short = rw c.in-Err-Short.field-0-is at c.in-Err-Short.ensures in
    (c.number.ensures ∙ ap open_number short.0, ap open_blocks short.0, short.1)

pub returns-in-Err-TagWrong : goal.returns-in-Err-TagWrong
unfolding open_number open_blocks
returns-in-Err-TagWrong c =
    let fail = rw c.in-Err-TagWrong.field-0-is at c.in-Err-TagWrong.ensures in
    (c.number-in-Err-TagWrong.ensures ∙ ap open_number fail.0, ap open_blocks fail.0, fail.1)
