-- `book::entries::put_entries` meets its contract. The invariant: the first j words and owners are over the arrays from `at` on.
use mathlib.Core.Path.{◌≡◌}
use lib.ListN.{length}
use lib.Seq.{paste}
use Rattle.layout.specs.Layout.{word, owner}
use Rattle.book.specs.Columns.{collect}
use Rattle.book.proofs.entries.put_entries.Given as goal

abbrev pub invariant-loop-j : goal.invariant-loop-j
invariant-loop-j l = (length l.words ≡ length l.initial.words) × (length l.owners ≡ length l.initial.owners)
    × (l.words ≡ paste l.initial.words l.at (collect (word l.book l.i) 0 l.e) l.j) × (l.owners ≡ paste l.initial.owners l.at (collect (owner l.book l.i) 0 l.e) l.j)
