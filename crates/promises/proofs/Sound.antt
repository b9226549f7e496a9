-- "It is sound if its host and interface counts are in range (0 hosts too) and so is every length and count it uses, and no entry's word has a bit at
-- or above its command count.": a sound state stays sound through every call and every series of calls. Only a revocation changes rights, and the
-- AND of an entry's word with another is no greater than the word.
use mathlib.Core.Path.{◌≡◌, refl}
use mathlib.Core.Bool.{true, not}
use mathlib.Core.List.{List, [], ◌∷◌}
use Prim.Native.Nat.{ℕ, ◌+◌, ◌*◌, ◌-◌, ◌≤◌, ◌<◌, ◌^◌}
use native.Mathlib.Omega.{arith}
use lib.Bits.{bit_and, and_le_l}
use lib.ListN.{get_or}
use Rattle.octets.specs.Checks.{◌when◌, is_zero}
use Rattle.octets.proofs.CheckLaws.{passed-of, is_zero-true}
use Rattle.state.specs.declared.State.{State}
use Rattle.state.specs.declared.Rights.{Rights}
use Rattle.state.specs.Flat.{with_words}
use Rattle.state.specs.Sound.{sound_rights}
use Rattle.octets.proofs.CheckLaws.{pick_ind}
use Rattle.state.proofs.SoundLaws.{sound-facts, sound-with_word}
use Rattle.view.specs.Counted.{no_such}
use Rattle.view.specs.Right.{right_of}
use Rattle.view.proofs.CountedLaws.{such}
use Rattle.view.proofs.ViewLaws.{entries-there, word-there}
use Rattle.gateway.specs.Revoke.{revoke_refusal, revoking}
use Rattle.promises.specs.Step.{Call, request, proof, command, reply, close, revoke, next}
use Rattle.promises.specs.Series.{after}

-- what an accepted revocation names: the interface and the entry are there, and the entry's word stands in its place among any words ws
pub record Revocable (r : Rights) (i e : ℕ) : Type 0 where
  pub interface : (1 ≤ i) × (i ≤ r.interfaces)
  pub entry : (1 ≤ e) × (e ≤ get_or r.entries (i - 1) 0)
  pub word : (ws : List ℕ) → (right_of (with_words r ws) i e).word ≡ get_or ws ((i - 1) * 16 + (e - 1)) 0

pub revocable : (r : Rights) (i e : ℕ) → revoke_refusal r i e ≡ 0 → Revocable r i e
unfolding revoke_refusal
revocable r i e z =
    let rows = passed-of (39 when not (sound_rights r) ∷ 14 when no_such i r.interfaces ∷ 15 when no_such e (right_of r i e).entries ∷ []) refl z in
    let there = rw (entries-there r i e rows.1.0) at rows.1.1.0 in record {
      interface = such i r.interfaces rows.1.0;
      entry = such e (get_or r.entries (i - 1) 0) there;
      word = λ ws. word-there (with_words r ws) i e rows.1.0 there;
    }

-- an entry's word, AND another, fits the interface's command count
word_fits : (r : Rights) (i e w : ℕ) → sound_rights r ≡ true → revoke_refusal r i e ≡ 0
    → bit_and (right_of r i e).word w < 2 ^ get_or r.commands (i - 1) 0
word_fits r i e w h z =
    let known = revocable r i e z in
    let below = ((sound-facts r h).interface (i - 1) (omega arith)).word (e - 1) (omega arith) in
    omega (arith, and_le_l (right_of r i e).word w, known.word r.words)

pub sound-kept : (s : State) (c : Call) → sound_rights s.rights ≡ true → sound_rights (next s c).rights ≡ true
unfolding next revoking
sound-kept s (request p f room) h = h
sound-kept s (proof n p room) h = h
sound-kept s (command p room) h = h
sound-kept s (reply n m pay room) h = h
sound-kept s (close n) h = h
sound-kept s (revoke i e w) h =
    pick_ind (λ r. sound_rights r ≡ true) (is_zero (revoke_refusal s.rights i e))
    (λ z. sound-with_word s.rights (i - 1) (e - 1) _ h (word_fits s.rights i e w h (is_zero-true _ z))) h

pub sound-series : (s : State) → sound_rights s.rights ≡ true → (cs : List Call) → sound_rights (after s cs).rights ≡ true
unfolding after
sound-series s h [] = h
sound-series s h (c ∷ cs) = sound-series (next s c) (sound-kept s c h) cs
