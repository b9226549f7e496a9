-- What the panel's calls of specs/Dairies are answered, and what they leave, in any state that holds what the book says of the panel and the filler.
use mathlib.Core.Path.{◌≡◌, refl, sym, ap, subst, ◌∙◌}
use mathlib.Core.Logic.{◌⊎◌, inr}
use mathlib.Core.Bool.{Bool, true, false}
use mathlib.Core.List.{List, [], ◌∷◌}
use Prim.Native.Nat.{ℕ, zero, suc, ◌<◌}
use native.Mathlib.Omega.{arith}
use lib.Bits.{bit_and}
use lib.ListN.{length, get_or, replicate}
use Rattle.octets.specs.Little.{number, Bytes}
use Rattle.octets.specs.Room.{part}
use Rattle.capability.specs.Bytes.{id_of, four_at, narrowed, open?}
use Rattle.capability.specs.Chain.{all_ones}
use Rattle.book.specs.States.{loaded}
use Rattle.book.proofs.LoadLaws.{load-sound}
use Rattle.state.specs.declared.State.{State}
use Rattle.state.specs.declared.Rights.{Rights}
use Rattle.state.specs.declared.transitions.Record.{Record}
use Rattle.state.specs.declared.transitions.Phase.TheVariants.{Open}
use Rattle.state.specs.Sound.{sound_rights}
use Rattle.state.proofs.SoundLaws.{sound-facts}
use Rattle.view.proofs.ViewLaws.{entries-there}
use Rattle.gateway.specs.Revoke.{revoke_refusal, revoking}
use Rattle.client.specs.Seal.{command_bytes}
use Rattle.promises.specs.Dairies.{north, the_panel, the_filler, master, panel_key, panel, greeting, fresh, third, room, hello, proven}
use Rattle.promises.specs.Dairies.{asks, sends, whole, narrower, strays}
use Rattle.promises.specs.Dairies.{fills_again, takes}
use Rattle.promises.specs.Handshake.{Handshake}
use Rattle.promises.specs.Places.{record_at, entries_of, word_of}
use Rattle.promises.specs.Reached.{Reached, by-issue, by-narrowing}
use Rattle.promises.specs.Ready.{Parts, packet_of, WellFormed, Connects, Finds, Permits, Genuine}
use Rattle.promises.specs.Series.{after}
use Rattle.promises.specs.Stands.{Names, BitSet}
use Rattle.promises.specs.Step.{command, answer, next}
use Rattle.promises.specs.Told.{Named}
use Rattle.promises.specs.Typed.{Typed}
use Rattle.promises.proofs.Books.{typed-loaded}
use Rattle.promises.proofs.Dairies.{Holds, holds-north, found-north}
use Rattle.promises.proofs.Handshake.{handshake-opens}
use Rattle.promises.proofs.Left.{accepted-leaves, revocation-leaves}
use Rattle.promises.proofs.ReachedLaws as R
use Rattle.promises.proofs.ReachedLaws.{issued-words, narrowing-words, reached-bytes}
use Rattle.promises.proofs.Ready.{built-14, built-18, built-accepted, built-client, built-interface, built-number}
use Rattle.promises.proofs.Sound.{sound-kept}
use Rattle.promises.proofs.TestLaws.{named-such}
use Rattle.promises.proofs.Typed.{typed-kept, typed-series}

-- ---- the two capabilities

replicate-bytes : (k b : ℕ) → b < 256 → Bytes (replicate k b)
replicate-bytes zero b h = tt
replicate-bytes (suc k) b h = (h, replicate-bytes k b h)

low : 1 < 65536
low = omega arith

pub whole-reached : Reached master 1 whole
whole-reached = by-issue

open-whole : open? (four_at whole 2) ≡ true
unfolding open?
open-whole = ap open? (issued-words master 1 low)

pub narrower-reached : Reached master 1 narrower
narrower-reached = by-narrowing whole 12 by-issue (omega arith) (λ e. omega arith) open-whole

pub narrower-words : four_at narrower 2 ≡ 12 ∷ all_ones ∷ all_ones ∷ all_ones ∷ []
unfolding narrowed
narrower-words = narrowing-words master 1 low whole 12 by-issue (omega arith) ∙ ap (narrowed 12) (issued-words master 1 low)

-- the bit of command 2 is in each word of both
pub twos : (w : ℕ) → BitSet 2 w → (k : ℕ) → k < 4 → BitSet 2 (get_or (w ∷ all_ones ∷ all_ones ∷ all_ones ∷ []) k 0)
twos w h zero l = h
twos w h (suc zero) l = refl
twos w h (suc (suc zero)) l = refl
twos w h (suc (suc (suc zero))) l = refl
twos w h (suc (suc (suc (suc k)))) l = absurd (omega arith)

-- a capability of its length, and parts with it
pub formed-by : (n i : ℕ) (c : List ℕ) → n < 128 → i < 65536 → (length c ≡ 50) × Bytes c → WellFormed (asks n i c)
formed-by n i c l m bytes = record {
  fits = record { client = omega arith; sequence = omega arith; group = omega arith; interface = m; command = omega arith };
  vector = refl;
  low = l;
  capability = bytes.0;
  bytes = bytes.1;
  payload = omega arith;
}

pub bytes-of : (c : List ℕ) → Reached master 1 c → (length c ≡ 50) × Bytes c
bytes-of c r = reached-bytes master 1 (replicate-bytes 16 3 (omega arith)) c r

pub well-formed : (n i : ℕ) (c : List ℕ) → n < 128 → i < 65536 → Reached master 1 c → WellFormed (asks n i c)
well-formed n i c l m r = formed-by n i c l m (bytes-of c r)

-- their ID
pub named-one : (c : List ℕ) → Reached master 1 c → id_of c ≡ 1
named-one c r = (R.whole master 1 low c r).named

-- ---- the panel is connected: its last accepted number, and the present word of the filler's entry

pub record Panel (s : State) (last w : ℕ) : Type 0 where
  pub typed : Typed s
  pub sound : sound_rights s.rights ≡ true
  pub holds : Holds s.rights w
  pub owed : Bool
  pub phase : (record_at s 1).phase ≡ Open last owed
  pub key : (record_at s 1).key ≡ panel_key

module _ (s : State) (last w : ℕ) (h : Panel s last w) where
  module _ (n i : ℕ) (c : List ℕ) where
    abbrev b : Parts
    b = asks n i c

    pub connects : last < n → Connects s b 48
    connects l = record {
      sound = sound-facts s.rights h.sound;
      client = (omega arith, omega (arith, h.holds.hosts));
      last = last;
      owed = h.owed;
      connected = h.phase;
      number = l;
      group = inr (sym h.holds.group);
      space = omega arith;
    }

    -- what holds of the packet under the connection's key holds of the one under the panel's
    pub under-key : (P : List ℕ → Type 0) → P (packet_of s b)
        → P (command_bytes panel_key b.vector b.ask b.capability b.payload)
    under-key P x = subst (λ k. P (command_bytes k b.vector b.ask b.capability b.payload)) h.key x

  module _ (n : ℕ) (c : List ℕ) (named : id_of c ≡ 1) where
    pub finds : Finds s (asks n 1 c)
    finds = record {
      interface = (omega arith, omega (arith, h.holds.interfaces));
      entry = (omega (arith, named), omega (arith, named, h.holds.entries));
      owner = inr (rw named h.holds.owner);
    }

    pub genuine : Reached master 1 c → Genuine s (asks n 1 c)
    genuine r = rw (h.holds.secret, named) r

    pub word-there : word_of s.rights 1 (id_of c) ≡ w
    word-there = rw named h.holds.word

-- ---- the handshake

pub well-made : Handshake (loaded north).state 1 panel greeting fresh third 48 48
unfolding number
well-made = record {
  typed = typed-loaded north;
  sound = load-sound north;
  host = found-north;
  there = omega arith;
  asks = record { some = omega arith; few = omega arith; size = refl; version = refl; counted = refl; named = refl };
  second = refl;
  third = refl;
  asked_room = omega arith;
  proved_room = omega arith;
}

pub connected : Panel (after (loaded north).state (hello ∷ proven ∷ [])) 0 15
unfolding panel_key
connected =
    let left = handshake-opens (loaded north).state 1 panel greeting fresh third room room well-made in record {
      typed = typed-series (loaded north).state (hello ∷ proven ∷ []) (typed-loaded north);
      sound = rw left.rights (load-sound north);
      holds = subst (λ r. Holds r 15) (sym left.rights) holds-north;
      owed = false;
      phase = ap (λ (r : Record). r.phase) left.own;
      key = ap (λ (r : Record). r.key) left.own;
    }

-- ---- its commands, and the revocation

-- the filler's command 2 is accepted, whichever of the two capabilities it is asked by
module _ (s : State) (w : ℕ) (h : Panel s 0 w) (set : BitSet 2 w) (c : List ℕ) (r : Reached master 1 c) (first : ℕ)
    (words : four_at c 2 ≡ first ∷ all_ones ∷ all_ones ∷ all_ones ∷ []) (two : BitSet 2 first) where
  abbrev filled : Parts
  filled = asks 1 1 c

  formed : WellFormed filled
  formed = well-formed 1 1 c (omega arith) (omega arith) r

  permits : Permits s filled
  permits = (rw (word-there s 0 w h 1 c (named-one c r)) set, subst (λ (ws : List ℕ). (k : ℕ) → k < 4 → BitSet 2 (get_or ws k 0)) (sym words) (twos first two))

  accepts : (answer s (command (packet_of s filled) room)).number ≡ 0
  accepts =
      (built-accepted s filled room h.typed formed (connects s 0 w h 1 1 c (omega arith)) (finds s 0 w h 1 c (named-one c r)) permits (genuine s 0 w h 1 c (named-one c r) r)).0

  after-it : Panel (next s (command (packet_of s filled) room)) 1 w
  after-it =
      let client = built-client s filled formed in
      let left = accepted-leaves s (command (packet_of s filled) room) h.typed accepts tt in
      let own = rw client at left.own in record {
        typed = typed-kept s (command (packet_of s filled) room) h.typed;
        sound = rw left.rights h.sound;
        holds = subst (λ q. Holds q w) (sym left.rights) h.holds;
        owed = true;
        phase = ap (λ (q : Record). q.phase) own ∙ ap (λ (n : ℕ). Open n true) (built-number s filled formed);
        key = ap (λ (q : Record). q.key) own ∙ h.key;
      }

  pub fills-accepted : (answer s (sends (asks 1 1 c))).number ≡ 0
  fills-accepted = under-key s 0 w h 1 1 c (λ p. (answer s (command p room)).number ≡ 0) accepts

  pub fills-leaves : Panel (next s (sends (asks 1 1 c))) 1 w
  fills-leaves = under-key s 0 w h 1 1 c (λ p. Panel (next s (command p room)) 1 w) after-it

module _ (s : State) (last w : ℕ) (h : Panel s last w) (l : last < 2) where
  pub strays-refused : (answer s strays).number ≡ 14
  strays-refused =
      under-key s last w h 2 9 narrower (λ p. (answer s (command p room)).number ≡ 14)
      (built-14 s (asks 2 9 narrower) room h.typed (well-formed 2 9 narrower (omega arith) (omega arith) narrower-reached)
      (connects s last w h 2 9 narrower l) (λ n. omega (arith, h.holds.interfaces)))

  -- where the present word lacks the bit
  pub again-refused : ¬ BitSet 2 w → (answer s fills_again).number ≡ 18
  again-refused d =
      under-key s last w h 2 1 narrower (λ p. (answer s (command p room)).number ≡ 18)
      (built-18 s (asks 2 1 narrower) room h.typed (well-formed 2 1 narrower (omega arith) (omega arith) narrower-reached)
      (connects s last w h 2 1 narrower l) (finds s last w h 2 narrower (named-one narrower narrower-reached))
      (omega (arith, h.holds.commands))
      (λ q. d (rw (word-there s last w h 2 narrower (named-one narrower narrower-reached)) at q.0)))

module _ (s : State) (last : ℕ) (h : Panel s last 15) where
  pub takes-accepted : (answer s takes).number ≡ 0
  unfolding answer revoking revoke_refusal
  takes-accepted =
      let there = named-such 1 s.rights.interfaces (omega arith, omega (arith, h.holds.interfaces)) in
      rw (h.sound, there, entries-there s.rights 1 1 there, named-such 1 (entries_of s.rights 1) (omega arith, omega (arith, h.holds.entries)))

  pub takes-leaves : Panel (next s takes) last 11
  takes-leaves =
      let left = revocation-leaves s 1 1 11 h.typed takes-accepted in
      let as-was = left.rights in record {
        typed = typed-kept s takes h.typed;
        sound = sound-kept s takes h.sound;
        holds = record {
          hosts = ap (λ (r : Rights). r.hosts) as-was ∙ h.holds.hosts;
          interfaces = ap (λ (r : Rights). r.interfaces) as-was ∙ h.holds.interfaces;
          group = ap (λ (r : Rights). get_or r.groups 0 0) as-was ∙ h.holds.group;
          commands = ap (λ (r : Rights). get_or r.commands 0 0) as-was ∙ h.holds.commands;
          entries = ap (λ (r : Rights). get_or r.entries 0 0) as-was ∙ h.holds.entries;
          owner = ap (λ (r : Rights). get_or r.owners 0 0) as-was ∙ h.holds.owner;
          word = left.word ∙ ap (λ (x : ℕ). bit_and x 11) h.holds.word;
          secret = ap (λ (r : Rights). part r.secrets 0 16) as-was ∙ h.holds.secret;
        };
        owed = h.owed;
        phase = rw left.records h.phase;
        key = rw left.records h.key;
      }

-- ---- which interface its commands name

module _ (s : State) (last w : ℕ) (h : Panel s last w) (n i : ℕ) (l : n < 128) (m : i < 65536) (c : List ℕ) (r : Reached master 1 c) where
  pub names : (the_filler i ≡ true) ⊎ (¬ Names i s.rights.interfaces) → Named the_panel the_filler s (sends (asks n i c))
  names e =
      under-key s last w h n i c (λ p. Named the_panel the_filler s (command p room))
      (λ q o. rw (built-interface s (asks n i c) (well-formed n i c l m r)) e)
