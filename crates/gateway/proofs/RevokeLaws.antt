-- What is known of an accepted revocation.
use mathlib.Core.Path.{◌≡◌, refl}
use mathlib.Core.Bool.{true}
use mathlib.Core.List.{[], ◌∷◌}
use Prim.Native.Nat.{ℕ, ◌≤◌}
use borrow.Author.Tests.{not-false}
use Rattle.octets.specs.Checks.{◌when◌}
use Rattle.octets.proofs.CheckLaws.{passed-of}
use Rattle.state.specs.declared.Rights.{Rights}
use Rattle.state.specs.Sound.{sound_rights}
use Rattle.view.specs.Right.{right_of}
use Rattle.view.proofs.CountedLaws.{such}
use Rattle.gateway.specs.Revoke.{revoke_refusal}

pub record RevokePassed (r : Rights) (i e : ℕ) : Type 0 where
  pub good : sound_rights r ≡ true
  pub interface : (1 ≤ i) × (i ≤ r.interfaces)
  pub entry : (1 ≤ e) × (e ≤ (right_of r i e).entries)

pub revoke-passed : (r : Rights) (i e : ℕ) → revoke_refusal r i e ≡ 0 → RevokePassed r i e
unfolding revoke_refusal
revoke-passed r i e z =
    let rows = passed-of (39 when _ ∷ 14 when _ ∷ 15 when _ ∷ []) refl z in record {
      good = not-false (sound_rights r) rows.0;
      interface = such i r.interfaces rows.1.0;
      entry = such e (right_of r i e).entries rows.1.1.0;
    }
