-- A part of a byte string, the number in it, and a byte string placed in a lent room.
use Rattle.std.specs.Prelude.{ℕ, ◌+◌, Bool, List, ◌++◌, leb, length, take, drop, replicate}
use Rattle.octets.specs.Checks.{pick}
use Rattle.octets.specs.Little.{number}

-- the `size` bytes of s from `at` on, or as many of them as there are
abbrev pub part : List ℕ → ℕ → ℕ → List ℕ
part s at size = take size (drop at s)

-- the little-endian number in the k bytes of s from `at` on
abbrev pub number_at : List ℕ → ℕ → ℕ → ℕ
number_at s at k = number (part s at k)

-- d with x over its bytes from `at` on
abbrev pub over : List ℕ → ℕ → List ℕ → List ℕ
over d at x = take at d ++ x ++ drop (at + length x) d

-- the room d once x was placed from `at` on: a room where x doesn't fit stays as it was
unfoldable pub placed : List ℕ → ℕ → List ℕ → List ℕ
placed d at x = pick (leb (at + length x) (length d)) (over d at x) d

-- whether the room holds x from its start on
abbrev pub fits : List ℕ → List ℕ → Bool
fits x room = leb (length x) (length room)

-- x at the start of the room, the rest as it was
abbrev pub at_start : List ℕ → List ℕ → List ℕ
at_start x room = x ++ drop (length x) room

-- k bytes of s from `at` on: what s doesn't reach counts as 0
unfoldable pub filled : ℕ → List ℕ → ℕ → List ℕ
filled k s at = at_start (part s at k) (replicate k 0)

abbrev pub sixteen_at : List ℕ → ℕ → List ℕ
sixteen_at s at = filled 16 s at
