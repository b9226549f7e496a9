-- `book::tables::put_strings` meets its contract. The invariant: the array holds the first k strings, each filled out to w, and the whole
-- filled out with 0s.
use Rattle.std.proofs.Common.{◌≡◌, ℕ, List, length}
use Rattle.book.specs.States.{fill, laid}
use Rattle.book.specs.Columns.{collect, Short, GivesBytes}
use Rattle.book.proofs.tables.put_strings.Given as goal

abbrev pub invariant-loop-k : goal.invariant-loop-k
invariant-loop-k g l = (length l.out ≡ length l.initial.out) × ((x : ℕ → List ℕ) → GivesBytes (goal.F-post g l.f) x l.from l.k → Short l.w x l.from l.k
    → l.out ≡ fill (length l.initial.out) (laid l.w (collect x l.from l.k)))
