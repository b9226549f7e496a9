-- To look alike to a machine is an equivalence of sound states, and the machine's calls see the same in both.
use mathlib.Core.Path.{◌≡◌, refl, sym, ◌∙◌}
use mathlib.Core.Bool.{Bool}
use Prim.Native.Nat.{ℕ, ◌-◌}
use native.Mathlib.Omega.{arith}
use Rattle.state.specs.declared.State.{State}
use Rattle.view.specs.View.{see}
use Rattle.view.proofs.CountedLaws.{place-there}
use Rattle.promises.specs.Step.{Call, next}
use Rattle.promises.specs.Told.{Machine}
use Rattle.promises.specs.Alike.{SoundTyped, IsHost, SameHosts, Alike}
use Rattle.promises.proofs.Hosts.{hosts-refl, hosts-sym, hosts-trans}
use Rattle.promises.proofs.Contents.{interface-refl, interface-sym, interface-trans}
use Rattle.promises.proofs.Own.{sized-kept}
use Rattle.promises.proofs.Typed.{words-kept}
use Rattle.promises.proofs.Sound.{sound-kept}
use Rattle.promises.proofs.TestLaws.{named-such}

pub sound-still : (s : State) (c : Call) → SoundTyped s → SoundTyped (next s c)
sound-still s c h = record {
  sound = sound-kept s c h.sound;
  words = words-kept s c h.words;
  records = sized-kept s c h.records;
}

module _ {A : Machine} where
  pub host-same : {s t : State} → IsHost A s → SameHosts s t → IsHost A t
  host-same h k = record {
    number = rw (← k.count) h.number;
    name = sym (k.name (A.number - 1) (omega arith)) ∙ h.name;
  }

  module _ {chosen : ℕ → Bool} where
    pub alike_refl : {s : State} → SoundTyped s → IsHost A s → Alike A chosen s s
    alike_refl h k = record {
      first = h;
      second = h;
      host = k;
      hosts = hosts-refl;
      interfaces = refl;
      contents = λ i q l. interface-refl _ i;
      held = refl;
    }

    pub alike-sym : {s t : State} → Alike A chosen s t → Alike A chosen t s
    alike-sym h = record {
      first = h.second;
      second = h.first;
      host = host-same h.host h.hosts;
      hosts = hosts-sym h.hosts;
      interfaces = sym h.interfaces;
      contents = λ i q l. interface-sym (h.contents i q (rw h.interfaces l));
      held = sym h.held;
    }

    pub alike-trans : {s t u : State} → Alike A chosen s t → Alike A chosen t u → Alike A chosen s u
    alike-trans h k = record {
      first = h.first;
      second = k.second;
      host = h.host;
      hosts = hosts-trans h.hosts k.hosts;
      interfaces = h.interfaces ∙ k.interfaces;
      contents = λ i q l. interface-trans (h.contents i q l) (k.contents i q (rw (← h.interfaces) l));
      held = h.held ∙ k.held;
    }

    pub see-same : {s t : State} → Alike A chosen s t → (n : ℕ) → n ≡ A.number → see s.rights s.records n ≡ see t.rights t.records n
    unfolding see
    see-same {s} h n e =
        let group = h.hosts.group (A.number - 1) (omega arith) in
        rw (
          e,
          h.first.sound,
          h.second.sound,
          ← h.hosts.count,
          ← h.interfaces,
          place-there A.number s.rights.hosts 32 (named-such _ _ h.host.number),
          group,
          h.held,
        )
