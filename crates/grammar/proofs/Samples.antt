-- The document's two books of 23 bytes.
use mathlib.Core.Path.{◌≡◌, refl}
use Prim.Native.Nat.{ℕ}
use mathlib.Core.List.{List, [], ◌∷◌}
use Rattle.octets.specs.Little.{number}
use Rattle.layout.specs.Layout.{format, rows, total, kind, id, start, size, hosts_before, expected, lead, name_start, name}
use Rattle.grammar.specs.Names.{letter, inner_space, fitting}
use Rattle.grammar.specs.Faults.{fault, none, first, each}
use Rattle.grammar.specs.Checks.{kind_fits, ordinal, size_fits, used_below, name_checks, body_checks, fault_of}

-- the document's book of 23 bytes, its last byte c: one host of no group, with a name of one byte
abbrev small : ℕ → List ℕ
small c = 1 ∷ 0 ∷ 1 ∷ 0 ∷ 23 ∷ 0 ∷ 0 ∷ 0 ∷ 1 ∷ 0 ∷ 1 ∷ 0 ∷ 20 ∷ 0 ∷ 0 ∷ 0 ∷ 3 ∷ 0 ∷ 0 ∷ 0 ∷ 0 ∷ 0 ∷ c ∷ []

-- "a" is good; with last byte 20 it is "refused 47 at 22"
pub small-books : (fault_of (small 97) ≡ none) × (fault_of (small 32) ≡ fault 47 22)
unfolding fault_of body_checks name_checks used_below kind_fits ordinal size_fits first each fitting letter inner_space number format rows total kind id start size hosts_before expected lead name_start name
small-books = (refl, refl)
