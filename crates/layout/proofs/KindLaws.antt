-- Laws of the kinds: a kind is that of one number, so that who matches on it has compared the number.
use mathlib.Core.Path.{◌≡◌, refl, sym, ap, ◌∙◌}
use mathlib.Core.Bool.{Bool, true, false}
use Prim.Native.Nat.{ℕ}
use lib.Dec.{eqb}
use borrow.Author.Tests.{eqb-true}
use Rattle.layout.specs.declared.kinds.Kind.TheVariants.{Host}
use Rattle.layout.specs.Kinds.{kind_of, code}

pub code-kind_of : (n : ℕ) → code (kind_of n) ≡ n
unfolding kind_of
code-kind_of n = either (eqb n 1) (eqb n 2) refl refl where
  either : (s t : Bool) → eqb n 1 ≡ s → eqb n 2 ≡ t → code (kind_of n) ≡ n
  either true t d e = rw (d, eqb-true n 1 d)
  either false true d e = rw (d, e) (sym (eqb-true n 2 e))
  either false false d e = rw (d, e)

pub kind_of-one : (m n : ℕ) → kind_of m ≡ kind_of n → m ≡ n
kind_of-one m n e = sym (code-kind_of m) ∙ ap code e ∙ code-kind_of n

pub host-one : (n : ℕ) → kind_of n ≡ Host → n ≡ 1
host-one n e = sym (code-kind_of n) ∙ ap code e

pub one-host : (n : ℕ) → n ≡ 1 → kind_of n ≡ Host
unfolding kind_of
one-host n e = rw e
