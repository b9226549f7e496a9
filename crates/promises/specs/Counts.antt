-- Document 01, "Blocks counted": the table of counts, by the number of an answer.
use Rattle.std.specs.Prelude.{ℕ, ◌+◌, ◌-◌, ◌||◌, List, eqb}
use Rattle.octets.specs.Checks.{pick, is_zero}
use Rattle.octets.specs.Range.{between}
use Rattle.ghash.specs.Ghash.{blocks_in}
use Rattle.capability.specs.Chain.{before}
use Rattle.state.specs.declared.State.{State}
use Rattle.promises.specs.Facts.{text_in}
use Rattle.promises.specs.Places.{words_said}

-- "Command refused by 39 or 1 to 7: 0; by 8: 2; by 9 to 18: 2 plus sixteenths of the encrypted part, rounded up; by 19 or accepted: that, plus 1,
-- plus the words before the first all-ones word.": number n, packet of m bytes, reduction words ws
abbrev pub command_count : ℕ → ℕ → List ℕ → ℕ
command_count n m ws =
    pick (eqb n 39 || between 1 7 n) 0
    (pick (eqb n 8) 2
    (pick (between 9 18 n) (2 + blocks_in (m - 32))
    (2 + blocks_in (m - 32) + 1 + before ws)))

-- "Sealing, and opening past the tag: 2 plus sixteenths, rounded up; a wrong reply tag 2.": a reply's text has four bytes before its payload of m
abbrev pub reply_count : ℕ → ℕ
reply_count m = 2 + blocks_in (4 + m)

-- a command's text has 64 bytes before its payload of m
abbrev pub seal_count : ℕ → ℕ
seal_count m = 2 + blocks_in (64 + m)

-- opening a reply of m bytes, with answer n
abbrev pub open_count : ℕ → ℕ → ℕ
open_count n m = pick (eqb n 8) 2 (pick (is_zero n || between 11 12 n) (2 + blocks_in (m - 28)) 0)

-- "Accepted proof 1.", "Issue 1, narrow 1. All else 0."
abbrev pub one_count : ℕ → ℕ
one_count n = pick (is_zero n) 1 0

-- the reduction words of a packet's text, under the key of the host that its open part names
abbrev pub words_in : State → List ℕ → List ℕ
words_in s p = words_said (text_in s p)
