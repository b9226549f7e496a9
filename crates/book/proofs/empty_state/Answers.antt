-- `book::empty_state` meets its contract.
use Rattle.book.specs.States.{empty_state}
use Rattle.book.proofs.empty_state.Goals as goal

pub returns : goal.returns
unfolding empty_state
returns c = rw (c.no_rights.ensures, c.idle_records.ensures)
