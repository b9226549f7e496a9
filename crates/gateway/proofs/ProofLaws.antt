-- What is known of an accepted proof.
use mathlib.Core.Path.{◌≡◌, refl}
use mathlib.Core.Bool.{true, not}
use mathlib.Core.List.{List, [], ◌∷◌}
use Prim.Native.Nat.{ℕ, ◌≤◌}
use borrow.Author.Tests.{not-false, eqb-true, ltb-false}
use lib.Dec.{eqb, ltb}
use lib.ListN.{length}
use Rattle.octets.specs.Checks.{Row, ◌when◌}
use Rattle.octets.specs.Same.{same}
use Rattle.octets.proofs.CheckLaws.{passed-of}
use Rattle.view.specs.Phases.{is_waiting}
use Rattle.view.specs.declared.View.{View}
use Rattle.view.proofs.CountedLaws.{such}
use Rattle.gateway.specs.Proof.{second, proof_refusal}

-- the rows of a host's proof past those about the host
abbrev pub proof_rows : View → List ℕ → ℕ → List Row
proof_rows v p n =
    25 when not (eqb (length p) 32) ∷ 26 when not (is_waiting v.held.phase) ∷ 27 when not (same (second p) v.held.challenge) ∷ 7 when ltb n 20 ∷ []

pub record ProofPassed (v : View) (h : ℕ) (p : List ℕ) (n : ℕ) : Type 0 where
  pub good : v.good ≡ true
  pub host : (1 ≤ h) × (h ≤ v.hosts)
  pub size : length p ≡ 32
  pub waiting : is_waiting v.held.phase ≡ true
  pub read : same (second p) v.held.challenge ≡ true
  pub room : 20 ≤ n

pub proof-passed : (v : View) (h : ℕ) (p : List ℕ) (n : ℕ) → proof_refusal v h p n ≡ 0 → ProofPassed v h p n
unfolding proof_refusal
proof-passed v h p n e =
    let rows = passed-of (39 when _ ∷ 4 when _ ∷ 25 when _ ∷ 26 when _ ∷ 27 when _ ∷ 7 when _ ∷ []) refl e in
    let more = rows.1.1 in record {
      good = not-false v.good rows.0;
      host = such h v.hosts rows.1.0;
      size = eqb-true (length p) 32 (not-false _ more.0);
      waiting = not-false (is_waiting v.held.phase) more.1.0;
      read = not-false (same (second p) v.held.challenge) more.1.1.0;
      room = ltb-false n 20 more.1.1.1.0;
    }
