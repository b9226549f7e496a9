-- Document 01, "The book": "kind (2; 1 host, 2 interface)".
use Rattle.std.specs.Prelude.{ℕ, eqb}
use Rattle.octets.specs.Checks.{pick}
use Rattle.layout.specs.declared.kinds.Kind.{Kind}
use Rattle.layout.specs.declared.kinds.Kind.TheVariants.{Host, Interface, Other}

-- the kind that a number stands for
unfoldable pub kind_of : ℕ → Kind
kind_of n = pick (eqb n 1) Host (pick (eqb n 2) Interface (Other n))

-- the number of a kind
abbrev pub code : Kind → ℕ
code Host = 1
code Interface = 2
code (Other n) = n
