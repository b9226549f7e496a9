-- `listing::text::Page::put_number` ends: the number gets smaller.
use Rattle.listing.proofs.text.Page.+put_number.Given as goal

abbrev pub decreases-put_number : goal.decreases-put_number
decreases-put_number l = l.n
