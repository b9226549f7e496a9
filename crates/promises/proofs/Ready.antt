-- Demand 2: "A well-built command is accepted with the same fields" (`built-accepted`). And what is well built but for one thing is refused by that
-- thing's number: 14 where there is no such interface (`built-14`), 18 where the entry's present word or a reduction word lacks the bit (`built-18`).
use mathlib.Core.Path.{◌≡◌, refl, sym, ap, subst, ◌∙◌}
use mathlib.Core.Bool.{Bool, true, false}
use mathlib.Core.List.{List, [], ◌∷◌, ◌++◌}
use Prim.Native.Nat.{ℕ, ◌+◌, ◌-◌, ◌%◌, ◌^◌, ◌≤◌, ◌<◌}
use native.Mathlib.Nat.{div-eq_of_lt}
use native.Mathlib.Omega.{arith}
use borrow.Author.Tests.{ltb-true, ltb-false}
use lib.Dec.{ltb}
use lib.ListN.{length, get_or}
use lib.Pow.{pow_mono}
use Rattle.octets.specs.Little.{number, octets}
use Rattle.octets.specs.Room.{part, number_at, at_start}
use Rattle.octets.proofs.RoomLaws.{filled-there}
use Rattle.aes.specs.Cipher.{cipher}
use Rattle.capability.specs.Bytes.{id_of, word_at, four_at, secret_of}
use Rattle.state.specs.declared.State.{State}
use Rattle.state.specs.Sound.{SoundFacts}
use Rattle.fields.specs.Command.{order_of, open_lead, command_lead}
use Rattle.packet.specs.Sealed.{sealed_packet}
use Rattle.fields.specs.declared.Order.{Order}
use Rattle.command.specs.Command.{tagged}
use Rattle.client.specs.Seal.{ask_text, command_bytes}
use Rattle.promises.specs.Step.{command, answer}
use Rattle.promises.specs.Rules.{Hold, Gives, slice}
use Rattle.promises.specs.Facts.{text_in, Authentic, command_facts}
use Rattle.promises.specs.Packets.{key_of, asked}
use Rattle.promises.specs.Ready.{Parts, packet_of, WellFormed, Connects, Finds, InRange, Permits, Genuine}
use Rattle.promises.specs.Places.{interface_said, number_said, entry_said, secret_said, command_said, words_said, record_at, commands_of, word_of}
use Rattle.promises.specs.Stands.{BitSet, Names, Permitted}
use Rattle.promises.specs.Typed.{Typed}
use Rattle.promises.proofs.Built.{packet-long, built-text, built-tagged, asked-long, asked-order, asked-payload}
use Rattle.promises.proofs.ByteLaws.{number-low}
use Rattle.promises.proofs.Facts.{text_facts, text-there, tag-gives, command-number}
use Rattle.promises.proofs.ReachedLaws.{whole}
use Rattle.promises.proofs.RuleLaws.{zero-hold, hold-zero, fails, hold-append}
use Rattle.promises.proofs.Stands.{accepted-says}

-- accepted, with the fields that were asked for and the payload written
abbrev pub BuiltAccepted : Type 0
BuiltAccepted =
    (s : State) (b : Parts) (room : List ℕ) → Typed s
    → WellFormed b → Connects s b (length room) → Finds s b → Permits s b → Genuine s b
    → ((answer s (command (packet_of s b) room)).number ≡ 0)
    × ((answer s (command (packet_of s b) room)).order ≡ asked b.ask b.capability b.payload)
    × ((answer s (command (packet_of s b) room)).room ≡ at_start b.payload room)

abbrev pub Built14 : Type 0
Built14 =
    (s : State) (b : Parts) (room : List ℕ) → Typed s
    → WellFormed b → Connects s b (length room) → ¬ Names b.ask.interface s.rights.interfaces
    → (answer s (command (packet_of s b) room)).number ≡ 14

abbrev pub Built18 : Type 0
Built18 =
    (s : State) (b : Parts) (room : List ℕ) → Typed s
    → WellFormed b → Connects s b (length room) → Finds s b → InRange s b → ¬ Permits s b
    → (answer s (command (packet_of s b) room)).number ≡ 18

-- the same bit, and the same words
permitted-by : {c d x y : ℕ} {ws us : List ℕ} → c ≡ d → x ≡ y → ws ≡ us → Permitted c x ws → Permitted d y us
permitted-by {c} {d} {x} {y} {ws} {us} p q e h = rw (← p, ← q, ← e) h

-- a bit of a word below 2 ^ n is below n
bit_below : (c n w : ℕ) → w < 2 ^ n → BitSet c w → c < n
bit_below c n w l set = by (ltb c n) refl where
  zero_bit : 0 % 2 ≡ 1 → ⊥
  zero_bit e = omega arith

  by : (t : Bool) → ltb c n ≡ t → c < n
  by true e = ltb-true c n e
  by false e =
      let none = div-eq_of_lt {n = w} {m = 2 ^ c} (omega (arith, pow_mono (ltb-false c n e))) in
      absurd (zero_bit (rw none at set))

-- no entry's word of a sound state has a bit at or above its command count
in-range : (s : State) (b : Parts) → SoundFacts s.rights → Finds s b → Permits s b → InRange s b
in-range s b sound f h =
    let i = b.ask.interface in
    let low = (sound.interface (i - 1) (omega (arith, f.interface))).word (id_of b.capability - 1) (omega (arith, f.entry)) in
    bit_below b.ask.command (commands_of s.rights i) _ low h.0

-- ---- the packet's open part

first_of : (xs ys zs : List ℕ) → 1 ≤ length xs → get_or ((xs ++ ys) ++ zs) 0 0 ≡ get_or xs 0 0
first_of [] ys zs h = absurd (omega arith)
first_of (x ∷ xs) ys zs h = refl

module _ (s : State) (b : Parts) (w : WellFormed b) where
  abbrev key : List ℕ
  key = key_of s b.ask.client

  abbrev p : List ℕ
  p = packet_of s b

  abbrev t : List ℕ
  t = ask_text b.ask b.capability b.payload

  long : length p ≡ 96 + length b.payload
  long = packet-long key b.vector b.capability b.ask b.payload w.vector w.capability w.bytes w.payload w.fits

  client-back : number_at p 0 2 ≡ b.ask.client
  unfolding command_bytes sealed_packet open_lead octets number
  client-back = omega (arith, w.fits.client)

  zeros-back : part p 2 2 ≡ 0 ∷ 0 ∷ []
  unfolding command_bytes sealed_packet open_lead octets
  zeros-back = refl

  vector-back : get_or p 4 0 ≡ get_or b.vector 0 0
  unfolding command_bytes sealed_packet open_lead octets
  vector-back = first_of b.vector _ _ (omega (arith, w.vector))

  key_back : (record_at s (number_at p 0 2)).key ≡ key
  key_back = rw client-back

  text-back : text_in s p ≡ t
  text-back =
      sym (text-there s p (omega (arith, long)))
      ∙ rw key_back (built-text key b.vector b.capability b.ask b.payload w.vector w.capability w.bytes w.payload w.fits)

  authentic : Authentic s p
  authentic =
      let right : tagged (cipher (record_at s (number_at p 0 2)).key) p ≡ 0 =
      rw key_back (built-tagged key b.vector b.capability b.ask b.payload w.vector w.capability w.bytes w.payload w.fits) in
      (zero-hold (slice 8 1 (command_facts s p 0)) refl (subst (Gives (slice 8 1 (command_facts s p 0))) right (tag-gives s p (omega (arith, long))))).0

  -- ---- the text

  says : order_of t ≡ asked b.ask b.capability b.payload
  says = asked-order b.capability b.ask b.payload w.capability w.bytes w.payload w.fits

  record Said : Type 0 where
    client : number_at t 0 2 ≡ b.ask.client
    sequence : number_at t 2 2 ≡ b.ask.sequence
    group : number_at t 4 2 ≡ b.ask.group
    interface : number_at t 6 2 ≡ b.ask.interface
    entry : number_at t 8 2 ≡ id_of b.capability
    size : number_at t 10 2 ≡ length b.payload
    command : number_at t 12 1 ≡ b.ask.command
    words : words_said t ≡ four_at b.capability 2
    secret : part t 48 16 ≡ secret_of b.capability

  text-long : 64 ≤ length t
  text-long = omega (arith, asked-long b.capability b.ask b.payload w.capability w.bytes w.payload w.fits)

  said : Said
  unfolding order_of word_at
  said = record {
    client = ap (λ (o : Order). o.client) says;
    sequence = ap (λ (o : Order). o.sequence) says;
    group = ap (λ (o : Order). o.group) says;
    interface = ap (λ (o : Order). o.interface) says;
    entry = ap (λ (o : Order). o.capability) says;
    size = ap (λ (o : Order). o.length) says;
    command = ap (λ (o : Order). o.command) says;
    words = ap (λ (o : Order). o.words) says;
    secret = sym (filled-there 16 t 48 (omega (arith, text-long))) ∙ ap (λ (o : Order). o.secret) says;
  }

  zeros-said : part t 13 3 ≡ 0 ∷ 0 ∷ 0 ∷ []
  unfolding ask_text command_lead octets
  zeros-said = refl

  -- ---- the facts

  connects-hold : (room : ℕ) → Connects s b room → Hold (slice 0 9 (command_facts s p room))
  connects-hold room c = (
    c.sound,
    (
      omega (arith, long),
      (
        omega (arith, long, w.payload),
        (
          zeros-back,
          (
            rw client-back c.client,
            (
              rw vector-back w.low,
              (
                record { last = c.last; owed = c.owed; phase = rw client-back c.connected; holds = tt },
                (omega (arith, long, c.space), (authentic, tt)),
              ),
            ),
          ),
        ),
      ),
    ),
  )

  fields-hold : (room : ℕ) → Connects s b room → Hold (text_facts 9 5 s p t)
  fields-hold room c = (
    said.client ∙ sym client-back,
    (
      zeros-said,
      (
        omega (arith, said.size, long),
        (
          record { last = c.last; owed = c.owed; phase = rw client-back c.connected; holds = rw said.sequence c.number },
          (rw (said.group, client-back) c.group, tt),
        ),
      ),
    ),
  )

  finds-hold : Finds s b → InRange s b → Hold (text_facts 14 4 s p t)
  finds-hold f l =
      rw (said.interface, said.entry, said.group, said.command) (f.interface, (f.entry, (f.owner, (l, tt))))

  word-said : word_of s.rights (interface_said t) (entry_said t) ≡ word_of s.rights b.ask.interface (id_of b.capability)
  word-said = rw (said.interface, said.entry)

  permits-hold : Permits s b → Hold (text_facts 18 1 s p t)
  permits-hold h = (permitted-by (sym said.command) (sym word-said) (sym said.words) h, tt)

  id-low : id_of b.capability < 65536
  unfolding id_of
  id-low = number-low b.capability w.bytes 0 2 (omega (arith, w.capability))

  genuine-holds : Genuine s b → Hold (text_facts 19 1 s p t)
  genuine-holds g = rw (said.interface, said.entry, said.words, said.secret) ((whole _ _ id-low b.capability g).secret, tt)

  module _ (room : List ℕ) (typed : Typed s) (c : Connects s b (length room)) where
    given : Gives (command_facts s p (length room)) (answer s (command p room)).number
    given = command-number s p room typed

    upto13 : Hold (slice 0 9 (command_facts s p (length room)) ++ text_facts 9 5 s p (text_in s p))
    upto13 =
        hold-append (slice 0 9 (command_facts s p (length room))) (text_facts 9 5 s p (text_in s p)) (connects-hold (length room) c)
        (subst (λ x. Hold (text_facts 9 5 s p x)) (sym text-back) (fields-hold (length room) c))

    no-interface : ¬ Names b.ask.interface s.rights.interfaces → (answer s (command p room)).number ≡ 14
    no-interface d =
        fails (slice 0 9 (command_facts s p (length room)) ++ text_facts 9 5 s p (text_in s p)) 14 (text_facts 15 5 s p (text_in s p)) _ upto13
        (rw (text-back, said.interface) d) given

    module _ (f : Finds s b) (l : InRange s b) where
      upto17 : Hold (slice 0 9 (command_facts s p (length room)) ++ text_facts 9 9 s p (text_in s p))
      upto17 =
          hold-append (slice 0 9 (command_facts s p (length room)) ++ text_facts 9 5 s p (text_in s p)) (text_facts 14 4 s p (text_in s p)) upto13
          (subst (λ x. Hold (text_facts 14 4 s p x)) (sym text-back) (finds-hold f l))

      no-permission : ¬ Permits s b → (answer s (command p room)).number ≡ 18
      no-permission d =
          fails (slice 0 9 (command_facts s p (length room)) ++ text_facts 9 9 s p (text_in s p)) 18 (text_facts 19 1 s p (text_in s p)) _ upto17
          (λ h. d (permitted-by said.command word-said said.words
          (subst (λ x. Permitted (command_said x) (word_of s.rights (interface_said x) (entry_said x)) (words_said x)) text-back h))) given

      -- all but the secret
      upto18 : Permits s b → Hold (slice 0 19 (command_facts s p (length room)))
      upto18 h =
          hold-append (slice 0 9 (command_facts s p (length room)) ++ text_facts 9 9 s p (text_in s p)) (text_facts 18 1 s p (text_in s p)) upto17
          (subst (λ x. Hold (text_facts 18 1 s p x)) (sym text-back) (permits-hold h))

      all_right : Permits s b → Genuine s b → (answer s (command p room)).number ≡ 0
      all_right h g =
          hold-zero (command_facts s p (length room)) _
          (hold-append (slice 0 19 (command_facts s p (length room))) (text_facts 19 1 s p (text_in s p)) (upto18 h)
          (subst (λ x. Hold (text_facts 19 1 s p x)) (sym text-back) (genuine-holds g))) given

-- ---- what a built packet says, wherever it is heard

module _ (s : State) (b : Parts) (w : WellFormed b) where
  pub built-client : number_at (packet_of s b) 0 2 ≡ b.ask.client
  built-client = client-back s b w

  pub built-long : length (packet_of s b) ≡ 96 + length b.payload
  built-long = long s b w

  pub built-interface : interface_said (text_in s (packet_of s b)) ≡ b.ask.interface
  built-interface = ap interface_said (text-back s b w) ∙ (said s b w).interface

  pub built-number : number_said (text_in s (packet_of s b)) ≡ b.ask.sequence
  built-number = ap number_said (text-back s b w) ∙ (said s b w).sequence

  pub built-entry : entry_said (text_in s (packet_of s b)) ≡ id_of b.capability
  built-entry = ap entry_said (text-back s b w) ∙ (said s b w).entry

  pub built-command : command_said (text_in s (packet_of s b)) ≡ b.ask.command
  built-command = ap command_said (text-back s b w) ∙ (said s b w).command

  pub built-secret : secret_said (text_in s (packet_of s b)) ≡ secret_of b.capability
  built-secret = ap secret_said (text-back s b w) ∙ (said s b w).secret

  pub built-words : words_said (text_in s (packet_of s b)) ≡ four_at b.capability 2
  built-words = ap words_said (text-back s b w) ∙ (said s b w).words

-- ---- the promises

pub built-14 : Built14
built-14 s b room typed w c d = no-interface s b w room typed c d

pub built-18 : Built18
built-18 s b room typed w c f l d = no-permission s b w room typed c f l d

-- all facts but the secret's
pub built-upto18 : (s : State) (b : Parts) (room : List ℕ) → Typed s → WellFormed b → Connects s b (length room) → Finds s b → Permits s b
    → Hold (slice 0 19 (command_facts s (packet_of s b) (length room)))
built-upto18 s b room typed w c f h = upto18 s b w room typed c f (in-range s b c.sound f h) h

pub built-accepted : BuiltAccepted
built-accepted s b room typed w c f h g =
    let e = all_right s b w room typed c f (in-range s b c.sound f h) h g in
    let left = accepted-says s (packet_of s b) room typed e in (
      e,
      left.order ∙ rw (text-back s b w) (says s b w),
      left.payload
          ∙ rw (text-back s b w, asked-payload b.capability b.ask b.payload w.capability w.bytes w.payload w.fits),
    )
