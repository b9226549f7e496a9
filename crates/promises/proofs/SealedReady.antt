-- Demand 2: "A well-built command is accepted with the same fields". `Ready` says so of the packet as the client's definition has it; here it is the
-- client's call that makes it. For well-formed parts and a number that isn't 0 the call accepts and writes that packet (`sealed-ready`); and the
-- server accepts what stands there (`sealed-accepted`).
use mathlib.Core.Path.{◌≡◌, ap, ◌∙◌}
use mathlib.Core.Logic.{◌≢◌}
use mathlib.Core.List.{List}
use Prim.Native.Nat.{ℕ, ◌+◌, ◌-◌, ◌≤◌}
use native.Mathlib.Omega.{arith}
use lib.ListN.{length, take}
use lib.Seq.{take_at}
use Rattle.octets.specs.Room.{at_start}
use Rattle.octets.proofs.LittleLaws.{number-byte}
use Rattle.state.specs.declared.State.{State}
use Rattle.state.proofs.RecordLaws.{sized-record_of}
use Rattle.client.specs.Seal.{command_bytes, sealing, seal_room}
use Rattle.promises.specs.Step.{command, answer}
use Rattle.promises.specs.Packets.{key_of, asked}
use Rattle.promises.specs.Ready.{Parts, packet_of, WellFormed, Connects, Finds, Permits, Genuine}
use Rattle.promises.specs.Typed.{Typed}
use Rattle.promises.proofs.Built.{seal-accepts}
use Rattle.promises.proofs.Ready.{built-accepted}
use Rattle.promises.proofs.Written.{seal-writes}

-- "Seal command: 28, 5, 12, 30, 7.": none of these, in every room that holds the packet; and the packet at the start of that room
abbrev pub SealedReady : Type 0
SealedReady =
    (key : List ℕ) (b : Parts) (room : List ℕ) → length key ≡ 16 → WellFormed b → b.ask.sequence ≢ 0 → 96 + length b.payload ≤ length room
    → ((sealing key b.vector b.capability b.ask b.payload room).number ≡ 0)
    × (seal_room key b.vector b.capability b.ask b.payload room
    ≡ at_start (command_bytes key b.vector b.ask b.capability b.payload) room)

-- what the client's call writes at the start of its room, under the key of its connection
abbrev pub sealed_in : State → Parts → List ℕ → List ℕ
sealed_in s b own = take (96 + length b.payload) (seal_room (key_of s b.ask.client) b.vector b.capability b.ask b.payload own)

-- "A well-built command is accepted with the same fields": what the client wrote in its own room, lent to the server with another
abbrev pub SealedAccepted : Type 0
SealedAccepted =
    (s : State) (b : Parts) (own room : List ℕ) → Typed s → 96 + length b.payload ≤ length own
    → WellFormed b → Connects s b (length room) → Finds s b → Permits s b → Genuine s b
    → ((answer s (command (sealed_in s b own) room)).number ≡ 0)
    × ((answer s (command (sealed_in s b own) room)).order ≡ asked b.ask b.capability b.payload)
    × ((answer s (command (sealed_in s b own) room)).room ≡ at_start b.payload room)

-- ---- the client's call

module _ (key : List ℕ) (b : Parts) (room : List ℕ) (ek : length key ≡ 16) (w : WellFormed b) (some : b.ask.sequence ≢ 0)
    (fits : 96 + length b.payload ≤ length room) where
  accepts : (sealing key b.vector b.capability b.ask b.payload room).number ≡ 0
  unfolding sealing
  accepts =
      seal-accepts key b.vector b.capability b.ask.sequence (length b.payload) (length room)
      (record { key = ek; vector = w.vector; capability = w.capability; payload = w.payload; room = fits })
      (omega (arith, number-byte b.vector 0 (omega (arith, w.vector)), w.low)) some

  writes : (seal_room key b.vector b.capability b.ask b.payload room
      ≡ at_start (command_bytes key b.vector b.ask b.capability b.payload) room)
      × (length (command_bytes key b.vector b.ask b.capability b.payload) ≡ 96 + length b.payload)
  writes = seal-writes key b.vector b.capability b.ask b.payload room accepts

pub sealed-ready : SealedReady
sealed-ready key b room ek w some fits = (accepts key b room ek w some fits, (writes key b room ek w some fits).0)

-- ---- and the server's

sealed-in : (s : State) (b : Parts) (own : List ℕ) (room : ℕ) → Typed s → 96 + length b.payload ≤ length own → WellFormed b → Connects s b room
    → sealed_in s b own ≡ packet_of s b
sealed-in s b own room typed fits w c =
    let wrote = writes (key_of s b.ask.client) b own (sized-record_of s.records (b.ask.client - 1) typed.records).key w
    (λ e. omega (arith, c.number)) fits in
    ap (take (96 + length b.payload)) wrote.0 ∙ take_at (packet_of s b) _ (96 + length b.payload) wrote.1

pub sealed-accepted : SealedAccepted
sealed-accepted s b own room typed fits w c f h g = rw (sealed-in s b own (length room) typed fits w c) (built-accepted s b room typed w c f h g)
