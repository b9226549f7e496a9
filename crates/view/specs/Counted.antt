-- Document 01, "Numbers of refusal": hosts, interfaces and entries are numbered from 1, and there is no such thing where the number is 0 or above
-- the count.
use Rattle.std.specs.Prelude.{ℕ, ◌-◌, Bool, ◌||◌, ltb}
use Rattle.octets.specs.Checks.{is_zero, pick}

unfoldable pub no_such : ℕ → ℕ → Bool
no_such n count = is_zero n || ltb count n

-- where thing n stands in an array; `past` if there is no such thing
unfoldable pub place : ℕ → ℕ → ℕ → ℕ
place n count past = pick (no_such n count) past (n - 1)
