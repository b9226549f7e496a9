-- `book::tables::column` meets its contract. The invariant: the array holds the column of the first k rows, filled out with 0s.
use Rattle.std.proofs.Common.{◌≡◌, ℕ, length}
use Rattle.book.specs.States.{fill}
use Rattle.book.specs.Columns.{collect, Gives}
use Rattle.book.proofs.tables.column.Given as goal

abbrev pub invariant-loop-k : goal.invariant-loop-k
invariant-loop-k g l = (length l.out ≡ g.row.N) × ((x : ℕ → ℕ) → Gives (goal.F-post g l.f) x l.from l.k → l.out ≡ fill g.row.N (collect x l.from l.k))
