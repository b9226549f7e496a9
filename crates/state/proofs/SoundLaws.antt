-- What a sound state is, fact by fact: a state is sound just where the facts hold. A state that holds nothing is sound, and one
-- with another word that fits stays so.
use mathlib.Core.Path.{◌≡◌, refl, ap}
use mathlib.Core.Bool.{true, ◌&&◌}
use mathlib.Core.Logic.{◌≢◌}
use mathlib.Core.List.{List, [], ◌∷◌}
use Prim.Native.Nat.{ℕ, zero, suc, ◌+◌, ◌*◌, ◌^◌, ◌<◌}
use native.Mathlib.Omega.{arith}
use borrow.Author.Tests.{lt-ltb, ltb-true, le-leb, leb-true}
use lib.Dec.{leb, ltb}
use lib.ListN.{length, get_or, set}
use lib.Seq.{get_or-set_same, get_or-set_other}
use Rattle.octets.specs.Range.{between}
use Rattle.octets.proofs.CheckLaws.{and_left, and_right, and_both}
use Rattle.octets.proofs.RangeLaws.{between-both, both-between}
use Rattle.state.specs.declared.Rights.{Rights}
use Rattle.state.specs.Sound.{all_within, all_words, interface_sound, all_interfaces, sound_rights, InterfaceFacts, SoundFacts}
use Rattle.state.specs.Flat.{with_words, with_word, no_rights}
use Rattle.octets.proofs.CheckLaws.{pick_ind}
use Rattle.state.proofs.BelowLaws.{below_all, all-below}

-- one interface
module _ (ws : List ℕ) (from n c e : ℕ) where
  pub interface-facts : interface_sound ws from n c e ≡ true → InterfaceFacts ws from n c e
  unfolding interface_sound all_words
  interface-facts h =
      let m = and_right (between 1 256 n) _ h in
      let k = and_right (between 1 64 c) _ m in record {
        span = between-both 1 256 n (and_left _ _ h);
        commands = between-both 1 64 c (and_left _ _ m);
        entries = between-both 1 16 e (and_left _ _ k);
        word = λ j l. ltb-true _ _ (below_all _ e (and_right (between 1 16 e) _ k) j l);
      }

  pub of-interface : InterfaceFacts ws from n c e → interface_sound ws from n c e ≡ true
  unfolding interface_sound all_words
  of-interface f =
      and_both _ _ (both-between 1 256 n f.span) (and_both _ _ (both-between 1 64 c f.commands) (and_both _ _ (both-between 1 16 e f.entries)
      (all-below _ e (λ j l. lt-ltb _ _ (f.word j l)))))

module _ (s : Rights) where
  pub sound-facts : sound_rights s ≡ true → SoundFacts s
  unfolding sound_rights all_within all_interfaces
  sound-facts h =
      let m = and_right (leb s.hosts 32) _ h in
      let n = and_right (leb s.interfaces 8) _ m in
      let e = and_right (all_within s.sizes 256 s.hosts) _ n in record {
        hosts = leb-true _ _ (and_left _ _ h);
        interfaces = leb-true _ _ (and_left _ _ m);
        size = λ i l. between-both _ _ _ (below_all _ s.hosts (and_left _ _ n) i l);
        interface = λ i l. interface-facts _ _ _ _ _ (below_all _ s.interfaces e i l);
      }

  pub of-sound : SoundFacts s → sound_rights s ≡ true
  unfolding sound_rights all_within all_interfaces
  of-sound f =
      and_both _ _ (le-leb _ _ f.hosts) (and_both _ _ (le-leb _ _ f.interfaces)
      (and_both _ _ (all-below _ s.hosts (λ i l. both-between _ _ _ (f.size i l)))
      (all-below _ s.interfaces (λ i l. of-interface _ _ _ _ _ (f.interface i l)))))

pub sound_none : sound_rights no_rights ≡ true
unfolding no_rights
sound_none = of-sound no_rights (record {
  hosts = omega arith;
  interfaces = omega arith;
  size = λ i l. absurd (omega arith);
  interface = λ i l. absurd (omega arith);
})

-- what holds of the value that is stored and of the one that stood there holds of the one that is read
set-ind : (P : ℕ → Type 0) (ws : List ℕ) (a k w : ℕ) → (k ≡ a → P w) → P (get_or ws k 0) → P (get_or (set ws a w) k 0)
set-ind P [] a k w f g = g
set-ind P (x ∷ ws) zero zero w f g = f refl
set-ind P (x ∷ ws) zero (suc k) w f g = g
set-ind P (x ∷ ws) (suc a) zero w f g = g
set-ind P (x ∷ ws) (suc a) (suc k) w f g = set-ind P ws a k w (λ e. f (ap suc e)) g

-- another word
module _ (s : Rights) (i j w : ℕ) where
  -- what holds of the rights with the word in them, where there is such a place, and of the rights as they were
  pub word-ind : (P : Rights → Type 0) → (i < 8 → j < 16 → P (with_words s (set s.words (i * 16 + j) w))) → P s → P (with_word s i j w)
  unfolding with_word
  word-ind P f g =
      pick_ind P (ltb i 8 && ltb j 16) (λ e. f (ltb-true i 8 (and_left _ _ e)) (ltb-true j 16 (and_right (ltb i 8) _ e))) g

  pub word_same : i < 8 → j < 16 → length s.words ≡ 128 → get_or (with_word s i j w).words (i * 16 + j) 0 ≡ w
  unfolding with_word
  word_same l m n = rw (lt-ltb i 8 l, lt-ltb j 16 m) (get_or-set_same s.words (i * 16 + j) w 0 (omega arith))

  pub word-other : (k : ℕ) → k ≢ i * 16 + j → get_or (with_word s i j w).words k 0 ≡ get_or s.words k 0
  word-other k n =
      word-ind (λ t. get_or t.words k 0 ≡ get_or s.words k 0) (λ l m. get_or-set_other s.words (i * 16 + j) k w 0 n) refl

  pub sound-with_word : sound_rights s ≡ true → w < 2 ^ get_or s.commands i 0 → sound_rights (with_word s i j w) ≡ true
  sound-with_word h b = word-ind (λ t. sound_rights t ≡ true) there h where
    there : i < 8 → j < 16 → sound_rights (with_words s (set s.words (i * 16 + j) w)) ≡ true
    there l m =
        let f = sound-facts s h in
        of-sound _ (record {
          hosts = f.hosts;
          interfaces = f.interfaces;
          size = f.size;
          interface = λ k q. let g = f.interface k q in record {
            span = g.span;
            commands = g.commands;
            entries = g.entries;
            word = λ n r.
                set-ind (λ v. v < 2 ^ get_or s.commands k 0) s.words (i * 16 + j) (k * 16 + n) w
                (λ e. let same : k ≡ i = omega arith in rw same b) (g.word n r);
          };
        })
