-- A book's rows: how many of the first rows are hosts, and the lists of a book's contents as what is
-- collected from its rows.
use mathlib.Core.Path.{◌≡◌, refl}
use mathlib.Core.List.{List}
use Prim.Native.Nat.{ℕ, zero, suc, ◌+◌, ◌≤◌}
use native.Mathlib.Nat.{add-zero}
use native.Mathlib.Numerals.{add-one}
use native.Mathlib.Omega.{arith}
use borrow.Author.Tests.{eq-eqb, ne_eqb}
use mathlib.Core.Bool.{Bool, true, false}
use lib.Dec.{eqb}
use lib.ListN.{length, length-take}
use Rattle.octets.specs.Checks.{pick}
use Rattle.layout.specs.Layout.{kind, group, name, secret, commands, entries, owner, word, hosts_before}
use Rattle.book.specs.Contents.{Host, Entry, Interface, hosts_from, entries_from, interfaces_from}
use Rattle.book.specs.Columns.{collect}

-- which byte string of a row: 0 its name, any other its master secret
unfoldable pub bytes_of : ℕ → List ℕ → ℕ → List ℕ
bytes_of zero b i = name b i
bytes_of (suc w) b i = secret b i

module _ (b : List ℕ) (i : ℕ) where
  pub bytes_rest : (w : ℕ) → (w ≡ 0 → ⊥) → bytes_of w b i ≡ secret b i
  unfolding bytes_of
  bytes_rest zero p = absurd (p refl)
  bytes_rest (suc w) p = refl

  pub secret-short : length (secret b i) ≤ 16
  unfolding secret
  secret-short = simp length-take (omega arith)

  pub hosts-host : kind b i ≡ 1 → hosts_before b (i + 1) ≡ hosts_before b i + 1
  unfolding hosts_before
  hosts-host e = rw (add-one i, eq-eqb (kind b i) 1 e)

  pub hosts-other : (kind b i ≡ 1 → ⊥) → hosts_before b (i + 1) ≡ hosts_before b i
  unfolding hosts_before
  hosts-other n = rw (add-one i, ne_eqb (kind b i) 1 n) (add-zero (hosts_before b i))

pub hosts-most : (b : List ℕ) (i : ℕ) → hosts_before b i ≤ i
unfolding hosts_before
hosts-most b zero = omega arith
hosts-most b (suc i) = omega (arith, hosts-most b i, one (eqb (kind b i) 1)) where
  one : (t : Bool) → pick t 1 0 ≤ 1
  one true = omega arith
  one false = omega arith

-- row by row
abbrev pub host_at : List ℕ → ℕ → Host
host_at b i = record { group = group b i; name = name b i }

abbrev pub entry_at : List ℕ → ℕ → ℕ → Entry
entry_at b i j = record { owner = owner b i j; word = word b i j }

abbrev pub interface_at : List ℕ → ℕ → Interface
interface_at b i =
    record { secret = secret b i; commands = commands b i; entries = entries_from b i 0 (entries b i); name = name b i }

module _ (b : List ℕ) where
  pub hosts-collect : (i m : ℕ) → hosts_from b i m ≡ collect (host_at b) i m
  unfolding hosts_from collect
  hosts-collect i zero = refl
  hosts-collect i (suc m) = rw (hosts-collect (suc i) m)

  pub entries-collect : (i j m : ℕ) → entries_from b i j m ≡ collect (entry_at b i) j m
  unfolding entries_from collect
  entries-collect i j zero = refl
  entries-collect i j (suc m) = rw (entries-collect i (suc j) m)

  pub interfaces-collect : (i m : ℕ) → interfaces_from b i m ≡ collect (interface_at b) i m
  unfolding interfaces_from collect
  interfaces-collect i zero = refl
  interfaces-collect i (suc m) = rw (interfaces-collect (suc i) m)
