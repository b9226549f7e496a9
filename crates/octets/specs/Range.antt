-- A number from one to another.
use Rattle.std.specs.Prelude.{ℕ, Bool, ◌&&◌, leb}

-- from lo to hi
abbrev pub between : ℕ → ℕ → ℕ → Bool
between lo hi v = leb lo v && leb v hi
