-- How many of the rows before a row are hosts, row by row.
use mathlib.Core.Path.{◌≡◌}
use mathlib.Core.Logic.{◌≢◌}
use mathlib.Core.Bool.{Bool, true, false}
use mathlib.Core.List.{List}
use Prim.Native.Nat.{ℕ, zero, suc, ◌+◌, ◌≤◌}
use native.Mathlib.Nat.{add-zero}
use native.Mathlib.Numerals.{add-one}
use native.Mathlib.Omega.{arith}
use borrow.Author.Tests.{eq-eqb, ne_eqb}
use lib.Dec.{eqb}
use Rattle.octets.specs.Checks.{pick}
use Rattle.layout.specs.Layout.{kind, hosts_before}

module _ (b : List ℕ) where
  pub hosts-host : (i : ℕ) → kind b i ≡ 1 → hosts_before b (i + 1) ≡ hosts_before b i + 1
  unfolding hosts_before
  hosts-host i e = rw (add-one i, eq-eqb _ _ e)

  pub hosts-other : (i : ℕ) → kind b i ≢ 1 → hosts_before b (i + 1) ≡ hosts_before b i
  unfolding hosts_before
  hosts-other i e = rw (add-one i, ne_eqb _ _ e) (add-zero (hosts_before b i))

  pub hosts-le : (i : ℕ) → hosts_before b i ≤ i
  unfolding hosts_before
  hosts-le zero = omega arith
  hosts-le (suc i) = omega (arith, hosts-le i, one (eqb (kind b i) 1)) where
    one : (t : Bool) → pick t 1 0 ≤ 1
    one true = omega arith
    one false = omega arith
