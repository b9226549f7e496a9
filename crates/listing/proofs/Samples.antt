-- Document 01, "Samples": numbers in decimal and the two listings, computed from the definitions.
use mathlib.Core.Path.{◌≡◌, refl}
use mathlib.Core.List.{List, [], ◌∷◌, ◌++◌}
use Prim.Native.Nat.{ℕ}
use lib.ListN.{replicate}
use Rattle.state.specs.declared.Rights.{Rights}
use Rattle.listing.specs.Decimal.{digits, decimal}
use Rattle.listing.specs.Lines.{counts_line, host_line, lines_from, listing_of, refused_line}

pub decimal-0 : decimal 0 ≡ 48 ∷ []
unfolding digits
decimal-0 = refl

pub decimal-7 : decimal 7 ≡ 55 ∷ []
unfolding digits
decimal-7 = refl

pub decimal-10 : decimal 10 ≡ 49 ∷ 48 ∷ []
unfolding digits
decimal-10 = refl

pub decimal-65535 : decimal 65535 ≡ 54 ∷ 53 ∷ 53 ∷ 51 ∷ 53 ∷ []
unfolding digits
decimal-65535 = refl

-- "refused 47 at 22"
pub refused-47 : refused_line 47 22 ≡ 114 ∷ 101 ∷ 102 ∷ 117 ∷ 115 ∷ 101 ∷ 100 ∷ 32 ∷ 52 ∷ 55 ∷ 32 ∷ 97 ∷ 116 ∷ 32 ∷ 50 ∷ 50 ∷ 10 ∷ []
unfolding refused_line digits
refused-47 = refl

-- the rights of the sample's book: one host, in group 0, with a name of one letter, and no interface
abbrev one_host : Rights
one_host = record {
  words = replicate 128 0;
  hosts = 1;
  interfaces = 0;
  groups = replicate 32 0;
  sizes = 1 ∷ replicate 31 0;
  spans = replicate 8 0;
  commands = replicate 8 0;
  entries = replicate 8 0;
  owners = replicate 128 0;
  secrets = replicate 128 0;
}

-- "hosts 1 interfaces 0", "host 1 group 0 a"
pub one-host : (rest labels : List ℕ) → listing_of one_host (97 ∷ rest) labels
    ≡ (104 ∷ 111 ∷ 115 ∷ 116 ∷ 115 ∷ 32 ∷ 49 ∷ 32 ∷ 105 ∷ 110 ∷ 116 ∷ 101 ∷ 114 ∷ 102 ∷ 97 ∷ 99 ∷ 101 ∷ 115 ∷ 32 ∷ 48 ∷ 10 ∷ [])
    ++ (104 ∷ 111 ∷ 115 ∷ 116 ∷ 32 ∷ 49 ∷ 32 ∷ 103 ∷ 114 ∷ 111 ∷ 117 ∷ 112 ∷ 32 ∷ 48 ∷ 32 ∷ 97 ∷ 10 ∷ [])
unfolding listing_of counts_line lines_from host_line digits
one-host rest labels = refl
