-- Demand 2: "A command is accepted exactly when it stands up": the facts of `Stands` are those of the order, and 0 is given just where all of them
-- hold. Then what an accepted command answers and leaves.
use mathlib.Core.Path.{◌≡◌, refl, sym, subst, ◌∙◌}
use mathlib.Core.List.{List}
use Prim.Native.Nat.{ℕ, ◌-◌}
use native.Mathlib.Omega.{arith}
use lib.ListN.{length, drop}
use Rattle.octets.specs.Room.{number_at}
use Rattle.octets.proofs.RoomLaws.{placed-start}
use Rattle.state.specs.declared.State.{State}
use Rattle.state.specs.declared.transitions.Record.{Record}
use Rattle.state.specs.Flat.{record_of, with_record, SizedRecord}
use Rattle.state.proofs.RecordLaws.{sized-record_of, stored, others}
use Rattle.fields.specs.Command.{order_of}
use Rattle.command.specs.Command.{ciph_of, text, order, command_refusal}
use Rattle.command.specs.Heard.{heard, heard_room}
use Rattle.gateway.specs.Command.{command_heard, commanding, command_room}
use Rattle.promises.specs.Step.{command, answer, next}
use Rattle.promises.specs.Rules.{Hold, Gives, slice}
use Rattle.promises.specs.Facts.{text_in, command_facts}
use Rattle.promises.specs.Stands.{Arrives, Stands}
use Rattle.promises.specs.Answered.{owing, Answered}
use Rattle.promises.specs.Typed.{Typed}
use Rattle.promises.proofs.RuleLaws.{hold-first, zero-hold, hold-zero}
use Rattle.promises.proofs.Facts.{text_facts, viewed, seen, authentic-tag, text-there, text-rest, command-number}

-- "Theorem: accepted if and only if it stands up."
abbrev pub AcceptedIffStands : Type 0
AcceptedIffStands =
    (s : State) (p room : List ℕ) → Typed s
    → ((answer s (command p room)).number ≡ 0 → Stands s p (length room)) × (Stands s p (length room) → (answer s (command p room)).number ≡ 0)

-- what the facts before 14 say: all but the right
unfoldable pub all-but-right : (s : State) (p : List ℕ) (room : ℕ) → Hold (slice 0 14 (command_facts s p room)) → Arrives s p room
all-but-right s p room outside =
    let client = outside.1.1.1.1 in
    let tag = client.1.1.1.1.0 in
    let inside = client.1.1.1.1.1 in
    let fresh = inside.1.1.1.0 in record {
      sound = outside.0;
      outside = record {
        long = outside.1.0;
        short = outside.1.1.0;
        zeros = outside.1.1.1.0;
        client = client.0;
        vector = client.1.0;
      };
      fits = client.1.1.1.0;
      last = fresh.last;
      text = text_in s p;
      inside = record { owed = fresh.owed; connected = fresh.phase; blocks = tag.blocks; authentic = tag.opens };
      says = record {
        client = inside.0;
        zeros = inside.1.0;
        payload = inside.1.1.0;
        number = fresh.holds;
        group = inside.1.1.1.1.0;
      };
    }

module _ (s : State) (p room : List ℕ) (typed : Typed s) where
  abbrev given : Gives (command_facts s p (length room)) (answer s (command p room)).number
  given = command-number s p room typed

  pub accepted-stands : (answer s (command p room)).number ≡ 0 → Stands s p (length room)
  unfolding all-but-right
  accepted-stands e =
      let facts = zero-hold (command_facts s p (length room)) refl (subst (Gives (command_facts s p (length room))) e given) in
      let right = facts.1.1.1.1.1.1.1.1.1.1.1.1.1.1 in record {
        arrives = all-but-right s p (length room) (hold-first (slice 0 14 (command_facts s p (length room))) (slice 14 6 (command_facts s p (length room))) facts);
        entitled = record {
          interface = right.0;
          entry = right.1.0;
          group = right.1.1.0;
          command = right.1.1.1.0;
          permitted = right.1.1.1.1.0;
          genuine = right.1.1.1.1.1.0;
        };
      }

  module _ (stands : Stands s p (length room)) where
    abbrev h : Arrives s p (length room)
    h = stands.arrives

    -- the text is what the check deciphers
    said : text_in s p ≡ h.text
    said = (authentic-tag _ _ _ _ _ h.text h.inside.blocks h.inside.authentic).1

    all_hold : Hold (command_facts s p (length room))
    all_hold =
        let o = h.outside in
        let f = h.says in
        let r = stands.entitled in
        let phase = h.inside.connected in (
          h.sound,
          (
            o.long,
            (
              o.short,
              (
                o.zeros,
                (
                  o.client,
                  (
                    o.vector,
                    (
                      record { last = h.last; owed = h.inside.owed; phase = phase; holds = tt },
                      (
                        h.fits,
                        (
                          record { blocks = h.inside.blocks; opens = rw said h.inside.authentic },
                          subst (λ x. Hold (text_facts 9 11 s p x)) (sym said) (
                            f.client,
                            (
                              f.zeros,
                              (
                                f.payload,
                                (
                                  record { last = h.last; owed = h.inside.owed; phase = phase; holds = f.number },
                                  (
                                    f.group,
                                    (
                                      r.interface,
                                      (r.entry, (r.group, (r.command, (r.permitted, (r.genuine, tt))))),
                                    ),
                                  ),
                                ),
                              ),
                            ),
                          ),
                        ),
                      ),
                    ),
                  ),
                ),
              ),
            ),
          ),
        )

    pub stands-accepted : (answer s (command p room)).number ≡ 0
    stands-accepted = hold-zero (command_facts s p (length room)) _ all_hold given

    passes : command_refusal (viewed s p) s.rights p (length room) ≡ 0
    unfolding answer command_heard heard
    passes = rw (seen s p h.outside.client) at stands-accepted

    text-said : (text (ciph_of (viewed s p)) p).bytes ≡ h.text
    text-said = text-there s p h.outside.long ∙ said

    -- the payload is what the packet carries
    payload-long : length (drop 64 h.text) ≡ length p - 96
    payload-long = rw (← said) (text-rest s p)

    -- the client's record afterwards
    abbrev client : ℕ
    client = number_at p 0 2 - 1

    abbrev left : Record
    left = owing (record_of s.records client) (number_at h.text 2 2)

    records-left : (next s (command p room)).records ≡ with_record s.records client left
    unfolding next commanding command_heard heard order order_of
    records-left = rw (seen s p h.outside.client, passes, text-said, h.inside.connected)

    pub accepted-answer : Answered s p room stands.arrives.text
    unfolding answer command_heard command_room heard heard_room order
    accepted-answer =
        let low = h.sound.hosts in
        let z = typed.records in
        let old = sized-record_of s.records client z in
        let sized : SizedRecord left = record { challenge = old.challenge; key = old.key } in record {
          order = rw (seen s p h.outside.client, passes, text-said);
          payload = rw (seen s p h.outside.client, passes, text-said) (placed-start room (drop 64 h.text) (omega (arith, h.fits, payload-long)));
          client = rw records-left (stored s.records client left (omega arith) z sized);
          others = λ j n. rw records-left (others s.records client left j n z sized);
        }

  -- of the text that the packet says
  pub accepted-says : (answer s (command p room)).number ≡ 0 → Answered s p room (text_in s p)
  accepted-says e = let h = accepted-stands e in rw (said h) (accepted-answer h)

pub accepted-iff-stands : AcceptedIffStands
accepted-iff-stands s p room typed = (accepted-stands s p room typed, stands-accepted s p room typed)
