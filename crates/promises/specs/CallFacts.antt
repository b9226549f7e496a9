-- Document 01, "Order.": for every server call the facts that make it acceptable, in the document's order, each with the number that is given where it
-- fails. Those of a command are in `Facts`.
use Rattle.std.specs.Prelude.{◌≡◌, true, List, [], ◌∷◌, ℕ, ◌+◌, ◌-◌, ◌≤◌, ◌<◌, length, drop}
use Rattle.octets.specs.Room.{number_at, part}
use Rattle.state.specs.declared.State.{State}
use Rattle.state.specs.declared.transitions.Phase.TheVariants.{Waiting, Open}
use Rattle.state.specs.Sound.{SoundFacts}
use Rattle.gateway.specs.Request.{name_at}
use Rattle.promises.specs.Facts.{OpenWith, command_facts}
use Rattle.promises.specs.Places.{record_at, entries_of}
use Rattle.promises.specs.Rules.{Rule, ◌unless◌}
use Rattle.promises.specs.Stands.{Names}
use Rattle.promises.specs.Step.{Call, request, proof, command, reply, close, revoke}

-- one of the hosts has that name
pub record Known (s : State) (name : List ℕ) : Type 0 where
  pub place : ℕ
  pub low : place < s.rights.hosts
  pub named : name_at s.rights s.names place ≡ name

abbrev pub call_facts : State → Call → List Rule
-- "Request: 39, 28, 20, 21, 22, 23, 7."
call_facts s (request p f room) =
    39 unless SoundFacts s.rights
    ∷ 28 unless (length f ≡ 16)
    ∷ 20 unless ((21 ≤ length p) × (length p ≤ 276))
    ∷ 21 unless (number_at p 0 2 ≡ 1)
    ∷ 22 unless (number_at p 2 2 ≡ length p - 20)
    ∷ 23 unless Known s (drop 20 p)
    ∷ 7 unless (32 ≤ length room)
    ∷ []
-- "Proof: 39, 4, 25, 26, 27, 7."
call_facts s (proof h p room) =
    39 unless SoundFacts s.rights
    ∷ 4 unless Names h s.rights.hosts
    ∷ 25 unless (length p ≡ 32)
    ∷ 26 unless ((record_at s h).phase ≡ Waiting)
    ∷ 27 unless (part p 0 16 ≡ (record_at s h).challenge)
    ∷ 7 unless (20 ≤ length room)
    ∷ []
-- "Command: 39, then 1 to 19."
call_facts s (command p room) = command_facts s p (length room)
-- "Reply: 39, 4, 6, 29, 30, 7."
call_facts s (reply h n pay room) =
    39 unless SoundFacts s.rights
    ∷ 4 unless Names h s.rights.hosts
    ∷ 6 unless OpenWith s h (λ last. Unit)
    ∷ 29 unless ((record_at s h).phase ≡ Open n true)
    ∷ 30 unless (length pay ≤ 16384)
    ∷ 7 unless (32 + length pay ≤ length room)
    ∷ []
-- "Close: 39, 4."
call_facts s (close h) = 39 unless SoundFacts s.rights ∷ 4 unless Names h s.rights.hosts ∷ []
-- "Revoke: 39, 14, 15."
call_facts s (revoke i e w) =
    39 unless SoundFacts s.rights
    ∷ 14 unless Names i s.rights.interfaces
    ∷ 15 unless Names e (entries_of s.rights i)
    ∷ []
