-- No call changes hosts: their number, names and groups, so that every call is about the same host before and after another. Words have no part in
-- the search for a name.
use mathlib.Core.Path.{◌≡◌, refl, sym, ap, ◌∙◌}
use mathlib.Core.List.{List}
use Prim.Native.Nat.{ℕ, zero, suc, ◌+◌, ◌-◌, ◌≤◌}
use native.Mathlib.Omega.{arith}
use lib.ListN.{get_or}
use Rattle.octets.specs.Checks.{is_zero}
use Rattle.octets.proofs.CheckLaws.{pick_ind}
use Rattle.state.specs.declared.State.{State}
use Rattle.state.specs.declared.Rights.{Rights}
use Rattle.state.specs.Flat.{with_words}
use Rattle.state.proofs.SoundLaws.{word-ind}
use Rattle.gateway.specs.Request.{name_at, found_from, found}
use Rattle.gateway.specs.Revoke.{revoke_refusal, revoking}
use Rattle.promises.specs.Step.{Call, request, proof, command, reply, close, revoke, next}
use Rattle.promises.specs.Subject.{subject}
use Rattle.promises.specs.Alike.{SameHosts}

-- ---- states with the same hosts

pub hosts-refl : {s : State} → SameHosts s s
hosts-refl = record { count = refl; name = λ i l. refl; group = λ i l. refl }

module _ {s t : State} (h : SameHosts s t) where
  pub hosts-sym : SameHosts t s
  hosts-sym = record {
    count = sym h.count;
    name = λ i l. sym (h.name i (omega arith));
    group = λ i l. sym (h.group i (omega arith));
  }

  pub hosts-trans : {u : State} → SameHosts t u → SameHosts s u
  hosts-trans k = record {
    count = h.count ∙ k.count;
    name = λ i l. h.name i l ∙ k.name i (omega arith);
    group = λ i l. h.group i l ∙ k.group i (omega arith);
  }

  from-same : (name : List ℕ) (i k : ℕ) → i + k ≤ s.rights.hosts
      → found_from s.rights s.names name i k ≡ found_from t.rights t.names name i k
  unfolding found_from
  from-same name i zero l = refl
  from-same name i (suc k) l = rw (h.name i (omega arith), from-same name (i + 1) k (omega arith))

  pub found-same : (name : List ℕ) → found s.rights s.names name ≡ found t.rights t.names name
  unfolding found
  found-same name = from-same name 0 s.rights.hosts (omega arith) ∙ ap (found_from t.rights t.names name 0) h.count

  -- a call is about the same host in both
  pub subject-same : (c : Call) → subject s c ≡ subject t c
  subject-same (request p f room) = found-same _
  subject-same (proof n p room) = refl
  subject-same (command p room) = refl
  subject-same (reply n m pay room) = refl
  subject-same (close n) = refl
  subject-same (revoke i e w) = refl

-- ---- what a call leaves as it was

-- what holds of the rights with any words holds of those after a call
pub rights-ind : (s : State) (c : Call) (P : Rights → Type 0) → ((ws : List ℕ) → P (with_words s.rights ws)) → P (next s c).rights
unfolding next revoking
rights-ind s (request p f room) P g = g _
rights-ind s (proof h p room) P g = g _
rights-ind s (command p room) P g = g _
rights-ind s (reply h n pay room) P g = g _
rights-ind s (close h) P g = g _
rights-ind s (revoke i e w) P g =
    pick_ind P (is_zero (revoke_refusal s.rights i e)) (λ q. word-ind s.rights (i - 1) (e - 1) _ P (λ a b. g _) (g _)) (g _)

names-kept : (s : State) (c : Call) → (next s c).names ≡ s.names
unfolding next
names-kept s (request p f room) = refl
names-kept s (proof h p room) = refl
names-kept s (command p room) = refl
names-kept s (reply h n pay room) = refl
names-kept s (close h) = refl
names-kept s (revoke i e w) = refl

pub hosts-kept : (s : State) (c : Call) → SameHosts s (next s c)
unfolding name_at
hosts-kept s c = record {
  count = rights-ind s c (λ r. s.rights.hosts ≡ r.hosts) (λ ws. refl);
  name = λ i l. rw (names-kept s c) (rights-ind s c (λ r. name_at s.rights s.names i ≡ name_at r s.names i) (λ ws. refl));
  group = λ i l. rights-ind s c (λ r. get_or s.rights.groups i 0 ≡ get_or r.groups i 0) (λ ws. refl);
}

pub interfaces-kept : (s : State) (c : Call) → s.rights.interfaces ≡ (next s c).rights.interfaces
interfaces-kept s c = rights-ind s c (λ r. s.rights.interfaces ≡ r.interfaces) (λ ws. refl)
