-- What `store` hands out and stores is what the readings of gateway say of the call's result.
use mathlib.Core.Path.{◌≡◌, refl, ap, ◌∙◌}
use Prim.Native.Nat.{ℕ}
use Rattle.std.specs.Prelude.{Result, Ok, Err, MatchResult}
use Rattle.refusal.specs.declared.Refused.{Refused}
use Rattle.refusal.specs.Numbers.{refusal_number}
use Rattle.state.specs.declared.State.{State}
use Rattle.state.specs.declared.Rights.{Rights}
use Rattle.state.specs.declared.Records.{Records}
use Rattle.state.specs.declared.transitions.Record.{Record}
use Rattle.state.specs.Flat.{with_record}
use Prim.Native.Nat.{◌≤◌}
use borrow.Author.Tests.{le-ltb}
use Rattle.gateway.specs.declared.Done.{Done}
use Rattle.gateway.specs.Common.{Changed, changed_in}
use Rattle.gateway.specs.Revoke.{Revoked, revoked_in}
use Rattle.promises.specs.Step.{with_records, with_rights}

-- the number n, the part t after the call and the count b
abbrev Stored : {T : Type 0} → T → ℕ → T → ℕ → Result (Done T) Refused → Type 0
Stored s n t b r = MatchResult r (λ d. (n ≡ 0) × (t ≡ d.after) × (b ≡ d.blocks)) (λ e. (n ≡ refusal_number e.why) × (t ≡ s) × (b ≡ e.blocks))

told : (s : Records) {n b : ℕ} {t : Records} (r : Result (Done Records) Refused) → Stored s n t b r
    → let y = changed_in s r in (n ≡ y.answer.number) × (t ≡ y.records) × (b ≡ y.answer.blocks)
told s (Ok d) m = m
told s (Err e) m = m

told-rights : (s : Rights) {n b : ℕ} {t : Rights} (r : Result (Done Rights) Refused) → Stored s n t b r
    → let y = revoked_in s r in (n ≡ y.answer.number) × (t ≡ y.rights) × (b ≡ y.answer.blocks)
told-rights s (Ok d) m = m
told-rights s (Err e) m = m

pub changed : (h : State) {n b : ℕ} {t : Records} {y : Changed} (r : Result (Done Records) Refused) → Stored h.records n t b r → changed_in h.records r ≡ y
    → (n ≡ y.answer.number) × (with_records h t ≡ with_records h y.records) × (b ≡ y.answer.blocks)
changed h r m e =
    let k = told h.records r m in (
      k.0 ∙ ap (λ (x : Changed). x.answer.number) e,
      ap (with_records h) (k.1 ∙ ap (λ (x : Changed). x.records) e),
      k.2 ∙ ap (λ (x : Changed). x.answer.blocks) e,
    )

pub revoked : (h : State) {n b : ℕ} {t : Rights} {y : Revoked} (r : Result (Done Rights) Refused) → Stored h.rights n t b r → revoked_in h.rights r ≡ y
    → (n ≡ y.answer.number) × (with_rights h t ≡ with_rights h y.rights) × (b ≡ y.answer.blocks)
revoked h r m e =
    let k = told-rights h.rights r m in (
      k.0 ∙ ap (λ (x : Revoked). x.answer.number) e,
      ap (with_rights h) (k.1 ∙ ap (λ (x : Revoked). x.rights) e),
      k.2 ∙ ap (λ (x : Revoked). x.answer.blocks) e,
    )

-- a record put past the places changes nothing: two must-fail edits lead their proof to it
pub past : {s t : Records} (i : ℕ) (r : Record) → t ≡ with_record s i r → 32 ≤ i → t ≡ s
unfolding with_record
past {s} {t} i r e h = e ∙ unchanged where
  unchanged : with_record s i r ≡ s
  unchanged = rw (le-ltb i 32 h) refl
