-- What is known of an accepted close.
use mathlib.Core.Path.{◌≡◌, refl}
use mathlib.Core.Bool.{true}
use mathlib.Core.List.{[], ◌∷◌}
use Prim.Native.Nat.{ℕ, ◌≤◌}
use borrow.Author.Tests.{not-false}
use Rattle.octets.specs.Checks.{◌when◌}
use Rattle.octets.proofs.CheckLaws.{passed-of}
use Rattle.view.specs.declared.View.{View}
use Rattle.view.proofs.CountedLaws.{such}
use Rattle.gateway.specs.Close.{close_refusal}

pub record ClosePassed (v : View) (h : ℕ) : Type 0 where
  pub good : v.good ≡ true
  pub host : (1 ≤ h) × (h ≤ v.hosts)

pub close_passed : (v : View) (h : ℕ) → close_refusal v h ≡ 0 → ClosePassed v h
unfolding close_refusal
close_passed v h e =
    let rows = passed-of (39 when _ ∷ 4 when _ ∷ []) refl e in
    record { good = not-false v.good rows.0; host = such h v.hosts rows.1.0 }
