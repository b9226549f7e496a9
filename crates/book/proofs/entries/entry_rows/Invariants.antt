-- `book::entries::entry_rows` meets its contract. The invariant: the arrays hold the entries of the first k interfaces.
use mathlib.Core.Path.{◌≡◌}
use lib.ListN.{length}
use Rattle.book.specs.States.{fill, laid}
use Rattle.book.specs.Columns as C
use Rattle.book.proofs.entries.entry_rows.Given as goal

abbrev pub invariant-loop-k : goal.invariant-loop-k
invariant-loop-k l = (length l.words ≡ 128) × (length l.owners ≡ 128)
    × (l.words ≡ fill 128 (laid 16 (C.collect (C.words l.book) l.h l.k))) × (l.owners ≡ fill 128 (laid 16 (C.collect (C.owners l.book) l.h l.k)))
