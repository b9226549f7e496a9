-- Numbers are the connection's own, over a series: if no call of it is about host h, then h's record at the end is that at the start, whatever the
-- other hosts and the revocations did.
use mathlib.Core.Path.{◌≡◌, refl, sym, ◌∙◌}
use mathlib.Core.List.{List, [], ◌∷◌}
use Prim.Native.Nat.{ℕ, ◌-◌, ◌≤◌}
use Rattle.state.specs.declared.State.{State}
use Rattle.state.specs.Flat.{record_of, Sized}
use Rattle.promises.specs.Step.{Call, next}
use Rattle.promises.specs.Series.{after}
use Rattle.promises.specs.Subject.{subject, NoneAbout}
use Rattle.promises.proofs.Hosts.{hosts-kept, subject-same}
use Rattle.promises.proofs.Own.{sized-kept, others-kept}

abbrev pub Lasting : Type 0
Lasting =
    (s : State) (cs : List Call) (h : ℕ) → 1 ≤ h → NoneAbout h s cs → Sized s.records
    → record_of (after s cs).records (h - 1) ≡ record_of s.records (h - 1)

-- ---- a call doesn't change which host another call is about

pub subject-kept : (s : State) (c d : Call) → subject (next s c) d ≡ subject s d
subject-kept s c d = sym (subject-same (hosts-kept s c) d)

none_kept : (h : ℕ) (s : State) (c : Call) (cs : List Call) → NoneAbout h s cs → NoneAbout h (next s c) cs
none_kept h s c [] n = n
none_kept h s c (d ∷ cs) n = (rw (subject-kept s c d) n.0, none_kept h s c cs n.1)

-- ---- the promise

pub lasting : Lasting
unfolding after
lasting s [] h l n z = refl
lasting s (c ∷ cs) h l n z =
    lasting (next s c) cs h l (none_kept h s c cs n.1) (sized-kept s c z) ∙ others-kept s c h l n.0 z
