-- Demand 2: "which number a refusal gives, as the first fact of the order that fails". Each row of the check's tables fails just where its fact does.
use mathlib.Core.Path.{◌≡◌, refl, ap, subst}
use mathlib.Core.Bool.{Bool, true, false, false≢true}
use mathlib.Core.List.{List, [], ◌∷◌, ◌++◌}
use Prim.Native.Nat.{ℕ, suc, ◌+◌, ◌*◌, ◌-◌, ◌≤◌, ◌<◌}
use native.Mathlib.Omega.{arith}
use borrow.Author.Tests.{not-false, eqb-true, eq-eqb, ltb-true, ltb-false, lt-ltb, le-ltb, leb-false, lt-leb}
use lib.ListN.{length, get_or, drop, length-drop}
use Rattle.octets.specs.Little.{number}
use Rattle.octets.specs.Room.{part, number_at}
use Rattle.octets.proofs.CheckLaws.{and_both}
use Rattle.octets.proofs.LittleLaws.{number-byte}
use Rattle.octets.proofs.RoomLaws.{filled-there}
use Rattle.octets.proofs.SameLaws.{same_true, same_refl}
use Rattle.aes.specs.Cipher.{cipher}
use Rattle.aes.proofs.CipherLaws.{cipher-length}
use Rattle.gcm.specs.Gctr.{Out}
use Rattle.gcm.proofs.RoundTrip.{opened-text}
use Rattle.gcm.specs.Gcm.{plain, open_if, open_under, open'}
use Rattle.capability.specs.Bytes.{word_at}
use Rattle.capability.specs.Rights.{allows, all_allow, permitted}
use Rattle.state.specs.declared.State.{State}
use Rattle.state.specs.declared.Rights.{Rights}
use Rattle.state.specs.declared.transitions.Record.{Record}
use Rattle.state.specs.Sound.{sound_rights}
use Rattle.state.proofs.SoundLaws.{sound-facts, of-sound}
use Rattle.view.specs.Counted.{no_such}
use Rattle.view.specs.Phases.{is_open, fresh}
use Rattle.view.specs.Right.{right_of}
use Rattle.view.specs.View.{see}
use Rattle.view.specs.declared.View.{View}
use Rattle.view.specs.declared.Right.{Right}
use Rattle.view.proofs.CountedLaws.{such, place-there}
use Rattle.view.proofs.ViewLaws.{commands-there, entries-there, owner-there, word-there, secret-there}
use Rattle.fields.specs.Command.{order_of}
use Rattle.packet.specs.Sealed.{right_tag, text_of}
use Rattle.packet.proofs.CommandLaws.{text-length}
use Rattle.command.specs.Command.{ciph_of, outer, tagged, text, order, inner, named, rightful, genuine, judged, opening, weighed, command_refusal}
use Rattle.command.specs.Heard.{heard}
use Rattle.gateway.specs.Command.{command_heard}
use Rattle.promises.specs.Step.{command, answer}
use Rattle.promises.specs.Rules.{Rule, Gives, slice}
use Rattle.promises.specs.Facts.{text_in, OpenWith, facts_of, command_facts, Opens}
use Rattle.promises.specs.Places.{record_at, words_said}
use Rattle.promises.specs.Stands.{Names}
use Rattle.promises.specs.Typed.{Typed}
use Rattle.promises.proofs.RuleLaws.{row, stages, zero-hold, hold-zero}
use Rattle.promises.proofs.TestLaws.{named-such, zero_or, or-zero, zeros-at, bits-set, set-bits, open-phase}

abbrev pub CommandNumber : Type 0
CommandNumber =
    (s : State) (p room : List ℕ) → Typed s → Gives (command_facts s p (length room)) (answer s (command p room)).number

-- ---- the facts by the stages of the check

-- of a text t
abbrev pub text_facts : ℕ → ℕ → State → List ℕ → List ℕ → List Rule
text_facts k n s p t = slice k n (facts_of s p 0 t (number_at t 6 2) (number_at t 8 2) (number_at t 12 1) (words_said t))

-- ---- what is seen of the client that the open part names

module _ (s : State) (p : List ℕ) where
  abbrev pub viewed : View
  viewed = record {
    good = sound_rights s.rights;
    hosts = s.rights.hosts;
    interfaces = s.rights.interfaces;
    group = get_or s.rights.groups (number_at p 0 2 - 1) 0;
    held = record_at s (number_at p 0 2);
  }

  pub seen : Names (number_at p 0 2) s.rights.hosts → see s.rights s.records (number_at p 0 2) ≡ viewed
  unfolding see
  seen h = rw (place-there (number_at p 0 2) s.rights.hosts 32 (named-such _ _ h))

  -- an open phase, and one with a number that the last one isn't above
  opened : is_open (record_at s (number_at p 0 2)).phase ≡ true → OpenWith s (number_at p 0 2) (λ last. Unit)
  opened o = let phase = open-phase (record_at s (number_at p 0 2)).phase o in record { last = phase.0; owed = phase.1; phase = phase.2; holds = tt }

  newer : (n : ℕ) → OpenWith s (number_at p 0 2) (λ last. Unit) → fresh (record_at s (number_at p 0 2)).phase n ≡ true → OpenWith s (number_at p 0 2) (λ last. last < n)
  newer n o f = record {
    last = o.last;
    owed = o.owed;
    phase = o.phase;
    holds = ltb-true o.last n (rw o.phase at f);
  }

  -- ---- the open part and the connection

  outer-gives : (room : ℕ) → Gives (slice 0 8 (command_facts s p room)) (outer (see s.rights s.records (number_at p 0 2)) p room)
  unfolding outer see number
  outer-gives room =
      let facts = command_facts s p room in
      row (slice 1 7 facts) 39 _ _ (λ h. rw (of-sound s.rights h)) λ t39. (
        sound-facts s.rights (not-false _ t39),
        row (slice 2 6 facts) 1 _ _ (λ h. le-ltb (length p) 96 h) λ t1. let long = ltb-false (length p) 96 t1 in (
          long,
          row (slice 3 5 facts) 2 _ _ (λ h. le-ltb 16480 (length p) h) λ t2. (
            ltb-false 16480 (length p) t2,
            row (slice 4 4 facts) 3 _ _ (λ h. rw h) λ t3. (
              zeros-at p 2 2 (omega arith) t3,
              row (slice 5 3 facts) 4 _ _ (λ h. named-such _ _ h) λ t4. (
                such (number_at p 0 2) s.rights.hosts t4,
                rw (place-there (number_at p 0 2) s.rights.hosts 32 t4) (
                    row (slice 6 2 facts) 5 _ _ (λ h. lt-leb 128 (number_at p 4 1) (rw (number-byte p 4 (omega arith)) h))
                    λ t5. (
                      rw (number-byte p 4 (omega arith)) at (leb-false 128 (number_at p 4 1) t5),
                      row (slice 7 1 facts) 6 _ _ (λ h. rw h.phase) λ t6. (
                        opened (not-false _ t6),
                        row (slice 8 0 facts) 7 _ _ (λ h. le-ltb room (length p - 96) (omega arith)) λ t7. let fits = ltb-false room (length p - 96) t7 in (omega arith, refl),
                      ),
                    )),
              ),
            ),
          ),
        ),
      )

-- ---- the tag and the text

opens-if : (t : Bool) (bs : List (List ℕ)) (o : Out) → t ≡ true → open_if t bs o ≡ plain o.bytes (bs ++ o.enciphered)
unfolding open_if
opens-if true bs o e = refl
opens-if false bs o e = absurd (false≢true e)

-- a ciphertext opens just where its tag is right, and says its text
module _ (ciph : List ℕ → List ℕ) (iv a c t : List ℕ) where
  opens : right_tag ciph a iv t c ≡ true → (bs : List (List ℕ)) × (open' ciph iv a c t ≡ plain (text_of ciph iv c).bytes bs)
  unfolding right_tag text_of open' open_under
  opens e = (_, opens-if _ _ _ e)

  pub authentic-tag : (x : List ℕ) (bs : List (List ℕ)) → open' ciph iv a c t ≡ plain x bs
      → (right_tag ciph a iv t c ≡ true) × ((text_of ciph iv c).bytes ≡ x)
  unfolding right_tag text_of open' open_under
  authentic-tag x bs e = let f = opened-text _ _ _ x bs e in (f.0, f.1)

-- what a packet says is decided by the record of the client that it names
pub text_same : (s t : State) (p : List ℕ) → record_at s (number_at p 0 2) ≡ record_at t (number_at p 0 2) → text_in s p ≡ text_in t p
text_same s t p e = ap (λ (r : Record). (text_of (cipher r.key) (part p 4 12) (drop 32 p)).bytes) e

-- the text after its fields is as long as the packet after its own
pub text-rest : (s : State) (p : List ℕ) → length (drop 64 (text_in s p)) ≡ length p - 96
text-rest s p =
    let t : List ℕ = text_in s p in
    omega (
      arith,
      length-drop 64 t,
      text-length (cipher (record_at s (number_at p 0 2)).key) (cipher-length (record_at s (number_at p 0 2)).key) (part p 4 12) (drop 32 p),
      length-drop 32 p,
    )

module _ (s : State) (p : List ℕ) (long : 96 ≤ length p) where
  abbrev ciph : List ℕ → List ℕ
  ciph = ciph_of (viewed s p)

  pub text-there : (text ciph p).bytes ≡ text_in s p
  unfolding text
  text-there = rw (filled-there 12 p 4 (omega arith))

  pub text-long : 64 ≤ length (text_in s p)
  text-long = omega (arith, text-length ciph (cipher-length (record_at s (number_at p 0 2)).key) (part p 4 12) (drop 32 p), length-drop 32 p)

  pub tag-gives : Gives (slice 8 1 (command_facts s p 0)) (tagged ciph p)
  unfolding tagged
  tag-gives =
      rw (filled-there 12 p 4 (omega arith), filled-there 16 p 16 (omega arith)) (
      row [] 8 _ _ (λ h. rw (authentic-tag ciph (part p 4 12) (part p 0 4) (drop 32 p) (part p 16 16) _ h.blocks h.opens).0)
      λ t8. let says = opens ciph (part p 4 12) (part p 0 4) (drop 32 p) (part p 16 16) (not-false _ t8) in
      (record { blocks = says.0; opens = says.1 }, refl))

-- ---- what the text says

module _ (s : State) (p t : List ℕ) (long : 64 ≤ length t) (o : OpenWith s (number_at p 0 2) (λ last. Unit)) where
  inner-gives : Gives (text_facts 9 6 s p t) (inner (viewed s p) (number_at p 0 2) (length p - 96) (order_of t))
  unfolding inner order_of number
  inner-gives =
      row (text_facts 10 5 s p t) 9 _ _ (λ h. rw (eq-eqb _ _ h)) λ t9. (
        eqb-true _ _ (not-false _ t9),
        row (text_facts 11 4 s p t) 10 _ _ (λ h. rw h) λ t10. (
          zeros-at t 13 3 (omega arith) t10,
          row (text_facts 12 3 s p t) 11 _ _ (λ h. rw (eq-eqb _ _ h)) λ t11. (
            eqb-true _ _ (not-false _ t11),
            row (text_facts 13 2 s p t) 12 _ _ (λ h. rw (h.phase, lt-ltb _ _ h.holds)) λ t12. (
              newer s p _ o (not-false _ t12),
              row (text_facts 14 1 s p t) 13 _ _ (λ h. or-zero _ _ h) λ t13. (
                zero_or _ _ t13,
                row (text_facts 15 0 s p t) 14 _ _ (λ h. named-such _ _ h) λ t14. (such _ s.rights.interfaces t14, refl),
              ),
            ),
          ),
        ),
      )

module _ (r : Rights) (i e : ℕ) where
  abbrev right : Right
  right = record {
    commands = get_or r.commands (i - 1) 0;
    entries = get_or r.entries (i - 1) 0;
    owner = get_or r.owners ((i - 1) * 16 + (e - 1)) 0;
    word = get_or r.words ((i - 1) * 16 + (e - 1)) 0;
    secret = part r.secrets ((i - 1) * 16) 16;
  }

  right_there : sound_rights r ≡ true → length r.secrets ≡ 128
      → no_such i r.interfaces ≡ false → no_such e (get_or r.entries (i - 1) 0) ≡ false → right_of r i e ≡ right
  right_there sound long a b = λ j. record {
    commands = commands-there r i e a j;
    entries = entries-there r i e a j;
    owner = owner-there r i e a b j;
    word = word-there r i e a b j;
    secret = secret-there r i e a sound long j;
  }

module _ (s : State) (p t : List ℕ) (long : 64 ≤ length t) (sound : sound_rights s.rights ≡ true) (secrets : length s.rights.secrets ≡ 128)
    (there : no_such (number_at t 6 2) s.rights.interfaces ≡ false) where
  abbrev i : ℕ
  i = number_at t 6 2

  abbrev e : ℕ
  e = number_at t 8 2

  right-gives : Gives (text_facts 15 4 s p t) (rightful (named s.rights (order_of t)) (order_of t))
  unfolding rightful order_of permitted allows all_allow word_at
  right-gives =
      rw (entries-there s.rights i e there) (
      row (text_facts 16 3 s p t) 15 _ _ (λ h. named-such _ _ h) λ t15. (
        such _ _ t15,
        rw (right_there s.rights i e sound secrets there t15) (
            row (text_facts 17 2 s p t) 16 _ _ (λ h. or-zero _ _ h) λ t16. (
              zero_or _ _ t16,
              row (text_facts 18 1 s p t) 17 _ _ (λ h. lt-leb _ _ h) λ t17. (
                leb-false _ _ t17,
                row (text_facts 19 0 s p t) 18 _ _ (λ h. rw (and_both _ _ (eq-eqb _ 1 h.0) (set-bits _ (words_said t) h.1)))
                    λ t18. let bits = bits-set (number_at t 12 1) ((right s.rights i e).word ∷ words_said t) (not-false _ t18) in
                    ((bits 0 (omega arith), λ k l. bits (suc k) (omega arith)), refl),
              ),
            )),
      ))

  secret-gives : no_such e (get_or s.rights.entries (i - 1) 0) ≡ false
      → Gives (text_facts 19 1 s p t) (genuine (named s.rights (order_of t)) (order_of t))
  unfolding genuine order_of word_at
  secret-gives entry =
      rw (right_there s.rights i e sound secrets there entry, filled-there 16 t 48 (omega arith)) (
      row [] 19 _ _ (λ h. rw (h, same_refl)) λ t19. (same_true _ _ (not-false _ t19), refl))

-- ---- the whole

module _ (s : State) (p : List ℕ) (room : ℕ) where
  opening-gives : Gives (slice 0 9 (command_facts s p room)) (opening (see s.rights s.records (number_at p 0 2)) p room)
  unfolding opening
  opening-gives =
      stages (slice 0 8 (command_facts s p room)) (slice 8 1 (command_facts s p room)) _ _ refl (outer-gives s p room)
      λ h. rw (seen s p h.1.1.1.1.0) (tag-gives s p h.1.0)

  -- a command opens just where the check gets past 8
  pub opens-zero : Opens s p room → opening (see s.rights s.records (number_at p 0 2)) p room ≡ 0
  opens-zero h = hold-zero (slice 0 9 (command_facts s p room)) _ h opening-gives

  pub zero-opens : opening (see s.rights s.records (number_at p 0 2)) p room ≡ 0 → Opens s p room
  zero-opens e = zero-hold (slice 0 9 (command_facts s p room)) refl (subst (Gives (slice 0 9 (command_facts s p room))) e opening-gives)

  -- and then its text says what the check reads
  pub order-there : Opens s p room → order (ciph_of (see s.rights s.records (number_at p 0 2))) p ≡ order_of (text_in s p)
  unfolding order
  order-there h = rw (seen s p h.1.1.1.1.0, text-there s p h.1.0)

pub command-number : CommandNumber
unfolding answer command_heard heard command_refusal weighed judged
command-number s p room typed =
    let t : List ℕ = text_in s p in
    stages (slice 0 9 (command_facts s p (length room))) (text_facts 9 11 s p t) _ _ refl (opening-gives s p (length room))
    λ h. let long = text-long s p h.1.0 in
    let sound = of-sound s.rights h.0 in
    rw (order-there s p (length room) h, seen s p h.1.1.1.1.0) (
    stages (text_facts 9 10 s p t) (text_facts 19 1 s p t) _ _ refl
    (stages (text_facts 9 6 s p t) (text_facts 15 4 s p t) _ _ refl (inner-gives s p t long h.1.1.1.1.1.1.0)
    λ q. right-gives s p t long sound typed.secrets (named-such _ _ q.1.1.1.1.1.0))
    λ q. secret-gives s p t long sound typed.secrets (named-such _ _ q.1.1.1.1.1.0) (named-such _ _ q.1.1.1.1.1.1.0))
