-- "Revocation replaces an entry's word by its AND with the given word, at once.": from an accepted revocation that takes a bit on, whatever calls
-- are heard in between, a command that names that interface, that entry and that bit is refused: by 18, if nothing before 18 refuses it.
use mathlib.Core.Path.{◌≡◌, refl, subst}
use mathlib.Core.Bool.{Bool, true, false}
use mathlib.Core.List.{List, [], ◌∷◌}
use Prim.Native.Nat.{ℕ, zero, suc, ◌/◌, ◌%◌, ◌^◌}
use native.Mathlib.Omega.{arith}
use borrow.Author.Tests.{eqb-true, eqb-false, eq-eqb}
use lib.Bits.{bit_and}
use lib.Dec.{eqb}
use lib.ListN.{length}
use Rattle.octets.proofs.CheckLaws.{and_left, and_right}
use Rattle.capability.specs.Rights.{allows}
use Rattle.capability.proofs.RightsLaws.{allows-and}
use Rattle.state.specs.declared.State.{State}
use Rattle.promises.specs.Step.{Call, request, proof, command, reply, close, revoke, answer, next}
use Rattle.promises.specs.Series.{after}
use Rattle.promises.specs.Among.{Listed}
use Rattle.promises.specs.Rules.{Hold, slice}
use Rattle.promises.specs.Facts.{text_in, command_facts}
use Rattle.promises.specs.Places.{interface_said, entry_said, command_said, entry_at, word_of}
use Rattle.promises.specs.Stands.{BitSet}
use Rattle.promises.specs.Text.{Asks}
use Rattle.promises.specs.Typed.{Typed}
use Rattle.promises.proofs.Facts.{command-number}
use Rattle.promises.proofs.Left.{revocation-leaves}
use Rattle.promises.proofs.Refused.{refusal-keeps}
use Rattle.promises.proofs.RuleLaws.{fails, fails-listed}
use Rattle.promises.proofs.Typed.{typed-kept, typed-series}

-- the numbers of a command, 0 and 19 left out
abbrev pub up_to18 : List ℕ
up_to18 = 39 ∷ 1 ∷ 2 ∷ 3 ∷ 4 ∷ 5 ∷ 6 ∷ 7 ∷ 8 ∷ 9 ∷ 10 ∷ 11 ∷ 12 ∷ 13 ∷ 14 ∷ 15 ∷ 16 ∷ 17 ∷ 18 ∷ []

-- bit c of the given word w is 0; after the revocation come any calls ks; and a command p then names interface i, entry e and command c. It is refused,
-- by 18 if the facts that come before hold.
abbrev pub RevokedAtOnce : Type 0
RevokedAtOnce =
    (s : State) (i e c w : ℕ) → Typed s → (answer s (revoke i e w)).number ≡ 0 → ¬ BitSet c w
    → (ks : List Call) (p room : List ℕ) → Asks (after s (revoke i e w ∷ ks)) p i e c
    → let later : State = after s (revoke i e w ∷ ks) in
    Listed up_to18 (answer later (command p room)).number
    × (Hold (slice 0 18 (command_facts later p (length room))) → (answer later (command p room)).number ≡ 18)

-- the present word of an entry only ever loses bits
abbrev pub Loses : Type 0
Loses = (s : State) (k : Call) → Typed s → (i e c : ℕ) → BitSet c (word_of (next s k).rights i e) → BitSet c (word_of s.rights i e)

and-bits : (c x y : ℕ) → BitSet c (bit_and x y) → BitSet c x × BitSet c y
unfolding allows
and-bits c x y h =
    let both = rw (allows-and c x y) at (eq-eqb (bit_and x y / 2 ^ c % 2) 1 h) in
    (eqb-true _ 1 (and_left _ _ both), eqb-true _ 1 (and_right (allows c x) _ both))

-- ---- every call

module _ (s : State) (j d w : ℕ) (typed : Typed s) (i e c : ℕ) where
  accepted-loses : (answer s (revoke j d w)).number ≡ 0
      → BitSet c (word_of (next s (revoke j d w)).rights i e) → BitSet c (word_of s.rights i e)
  accepted-loses z h = by_place (eqb (entry_at j d) (entry_at i e)) refl where
    by_place : (t : Bool) → eqb (entry_at j d) (entry_at i e) ≡ t → BitSet c (word_of s.rights i e)
    by_place true q =
        let same : entry_at j d ≡ entry_at i e = eqb-true _ _ q in
        let now = (revocation-leaves s j d w typed z).word in
        (and-bits c (word_of s.rights i e) w (subst (BitSet c) (rw same at now) h)).0
    by_place false q = subst (BitSet c) ((revocation-leaves s j d w typed z).others (entry_at i e) (eqb-false _ _ q)) h

  revoke-loses : BitSet c (word_of (next s (revoke j d w)).rights i e) → BitSet c (word_of s.rights i e)
  revoke-loses = by_number (answer s (revoke j d w)).number refl where
    by_number : (n : ℕ) → (answer s (revoke j d w)).number ≡ n
        → BitSet c (word_of (next s (revoke j d w)).rights i e) → BitSet c (word_of s.rights i e)
    by_number zero z h = accepted-loses z h
    by_number (suc n) z h = rw (refusal-keeps s (revoke j d w) (λ y. omega arith)).0 at h

pub loses : Loses
unfolding next
loses s (request p f room) typed i e c h = h
loses s (proof n p room) typed i e c h = h
loses s (command p room) typed i e c h = h
loses s (reply n m pay room) typed i e c h = h
loses s (close n) typed i e c h = h
loses s (revoke j d w) typed i e c h = revoke-loses s j d w typed i e c h

pub loses-series : (s : State) (ks : List Call) → Typed s
    → (i e c : ℕ) → BitSet c (word_of (after s ks).rights i e) → BitSet c (word_of s.rights i e)
unfolding after
loses-series s [] typed i e c h = h
loses-series s (k ∷ ks) typed i e c h = loses s k typed i e c (loses-series (next s k) ks (typed-kept s k typed) i e c h)

-- ---- the promise

-- a command whose bit isn't in the entry's present word
module _ (s : State) (p room : List ℕ) (typed : Typed s)
    (taken : ¬ BitSet (command_said (text_in s p)) (word_of s.rights (interface_said (text_in s p)) (entry_said (text_in s p)))) where
  refused-listed : Listed up_to18 (answer s (command p room)).number
  refused-listed =
      fails-listed (slice 0 18 (command_facts s p (length room))) 18 (slice 19 1 (command_facts s p (length room))) _ (λ h. taken h.0)
      (command-number s p room typed)

  refused-18 : Hold (slice 0 18 (command_facts s p (length room))) → (answer s (command p room)).number ≡ 18
  refused-18 h =
      fails (slice 0 18 (command_facts s p (length room))) 18 (slice 19 1 (command_facts s p (length room))) _ h (λ b. taken b.0)
      (command-number s p room typed)

-- "at once"
pub revoked-at-once : RevokedAtOnce
unfolding after
revoked-at-once s i e c w typed z taken ks p room asks =
    let now : State = next s (revoke i e w) in
    let still : Typed now = typed-kept s (revoke i e w) typed in
    let later : Typed (after now ks) = typed-series now ks still in
    let t : List ℕ = text_in (after now ks) p in
    let gone : ¬ BitSet (command_said t) (word_of (after now ks).rights (interface_said t) (entry_said t)) = λ h.
    let first = loses-series now ks still i e c (rw (asks.interface, asks.entry, asks.command) at h) in
    taken (and-bits c (word_of s.rights i e) w (subst (BitSet c) (revocation-leaves s i e w typed z).word first)).1 in
    (refused-listed (after now ks) p room later gone, refused-18 (after now ks) p room later gone)
