-- `listing::text::Page::put_number` meets its contract: the digits before the last are those of a tenth.
use Rattle.std.proofs.Common.{ℕ, ◌+◌, ◌/◌, ◌≤◌, ◌<◌, length, length-append, ap, sym, arith}
use Rattle.listing.specs.Decimal.{decimal}
use Rattle.listing.proofs.DecimalLaws.{decimal_digit, decimal_more}
use Rattle.listing.proofs.PageLaws.{adds-left, adds_then, adds_as}
use Rattle.listing.proofs.text.Page.+put_number.Goals as goal
use Rattle.listing.proofs.text.Page.+put_number.Goals.{then-n-ge10, else-n-ge10}

-- a number's digits are one more than those of its tenth
longer : (n : ℕ) → 10 ≤ n → n < 65536 → length (decimal (n / 10)) + 1 ≤ length (decimal n)
longer n h l = omega (arith, length-append {A = ℕ}, ap length (decimal_more n h l))

pub put_number-requires : goal.put_number-requires
put_number-requires t c = (omega arith, omega (arith, longer c.args.n c.if-n-ge10.true (omega arith)))

pub put-requires : goal.put-requires
put-requires t c =
    elim c.if-n-ge10.branch [
      | then-n-ge10 w ↦ rw w.self-is (adds-left _ 1 w.put_number.ensures c.requires (longer c.args.n w.if-n-ge10.true (omega arith)))
      | else-n-ge10 w ↦ rw w.self-is (omega (arith, ap length (decimal_digit c.args.n w.if-n-ge10.false)))
    ]

pub returns : goal.returns
returns t c =
    elim c.if-n-ge10.branch [
      | then-n-ge10 w ↦ adds_as (adds_then w.put_number.ensures (rw w.self-is at c.put.ensures)) (sym (decimal_more c.args.n w.if-n-ge10.true (omega arith)))
      | else-n-ge10 w ↦ adds_as (rw w.self-is at c.put.ensures) (sym (decimal_digit c.args.n w.if-n-ge10.false))
    ]
