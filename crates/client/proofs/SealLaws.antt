-- Sealing a command: what holds of the bytes lent where nothing is refused, and that they make the packet and its count of blocks.
use mathlib.Core.Path.{◌≡◌, refl, ◌∙◌}
use mathlib.Core.Bool.{not, ◌&&◌}
use mathlib.Core.List.{List, [], ◌∷◌, ◌++◌}
use Prim.Native.Nat.{ℕ, ◌+◌, ◌≤◌}
use native.Mathlib.Omega.{arith}
use borrow.Author.Tests.{ltb-false, eqb-true, not-false}
use lib.Dec.{eqb, leb}
use lib.ListN.{length, drop, replicate, length-append, length-drop}
use lib.Seq.{take_all}
use Rattle.octets.specs.Little.{octets}
use Rattle.octets.specs.Checks.{◌when◌}
use Rattle.octets.specs.Room.{number_at, placed, filled}
use Rattle.octets.proofs.CheckLaws.{and_left, and_right, passed-of}
use Rattle.octets.proofs.RoomLaws.{filled-there}
use Rattle.octets.proofs.PlacedLaws.{placed-next, placed-whole}
use Rattle.refusal.proofs.NumberLaws.{refusal-above}
use Rattle.capability.specs.Bytes.{id_of}
use Rattle.fields.specs.Command.{command_lead, open_lead}
use Rattle.packet.specs.Sealed.{sealed_packet, sealed_blocks}
use Rattle.packet.proofs.SealedLaws.{packet-length, blocks-counted}
use Rattle.client.specs.Seal.{seal_refusal, ask_text, command_bytes, seal_blocks}
use Rattle.client.specs.declared.seal.Ask.{Ask}

-- a key, a vector and a capability, and how long the payload and the room are
pub record Lent (k v c : List ℕ) (m n : ℕ) : Type 0 where
  pub key : length k ≡ 16
  pub vector : length v ≡ 12
  pub capability : length c ≡ 50
  pub payload : m ≤ 16384
  pub room : 96 + m ≤ n

pub lent : (key vector capability : List ℕ) (sequence payload room : ℕ) → seal_refusal key vector capability sequence payload room ≡ 0
    → Lent key vector capability payload room
unfolding seal_refusal
lent key vector capability sequence payload room e =
    let k = eqb (length key) 16 in
    let v = eqb (length vector) 12 in
    let c = eqb (length capability) 50 in
    let p = passed-of (28 when not (k && (v && c)) ∷ 5 when leb 128 (number_at vector 0 1) ∷ 12 when eqb sequence 0 ∷ 30 when _ ∷ 7 when _ ∷ []) refl e in
    let l = not-false (k && (v && c)) p.0 in
    record {
      key = eqb-true _ _ (and_left k (v && c) l);
      vector = eqb-true _ _ (and_left v c (and_right k (v && c) l));
      capability = eqb-true _ _ (and_right v c (and_right k (v && c) l));
      payload = ltb-false _ _ p.1.1.1.0;
      room = ltb-false _ _ p.1.1.1.1.0;
    }

pub ruleset judged = (refusal-above, lent)

-- the text before the payload, in a room of its length: sixteen bytes of fields, then what the capability has after its ID
pub head-laid : (lead x : List ℕ) → length lead ≡ 16 → length x ≡ 48 → placed (placed (replicate 64 0) 0 lead) 16 x ≡ lead ++ x
head-laid lead x e f =
    placed-next (replicate 64 0) 0 lead 16 x (omega arith) (omega arith)
    ∙ placed-whole (replicate 64 0) (lead ++ x) (omega (arith, length-append lead x))

module _ (key vector capability : List ℕ) (a : Ask) (payload room : List ℕ) (l : Lent key vector capability (length payload) (length room)) where
  abbrev lead : List ℕ
  lead = open_lead a.client

  abbrev text : List ℕ
  text = ask_text a capability payload

  -- before the payload stand 4 bytes of additional data, vector and tag, and 64 of the text
  packet-fits : length (sealed_packet key lead vector text) ≤ length room
  unfolding open_lead ask_text command_lead octets
  packet-fits =
      omega (arith, packet-length key lead vector text l.vector, length-append (drop 2 capability) payload, length-drop 2 capability)

  -- sealing what the code hands over is sealing the command: the key and the vector as lent, and its text
  pub command-sealed : (k o v h : List ℕ) → k ≡ filled 16 key 0 → o ≡ open_lead a.client → v ≡ filled 12 vector 0
      → h ≡ command_lead a.client a.sequence a.group a.interface (id_of capability) (length payload) a.command ++ drop 2 capability
      → (sealed_packet k o v (h ++ payload) ≡ command_bytes key vector a capability payload)
      × (sealed_blocks k o v (h ++ payload) room ≡ length (seal_blocks key vector a capability payload))
  unfolding command_bytes seal_blocks ask_text
  command-sealed k o v h ek eo ev eh =
      let same_key : k ≡ key = ek ∙ filled-there 16 key 0 (omega arith) ∙ take_all 16 key (omega arith) in
      let same-vector : v ≡ vector = ev ∙ filled-there 12 vector 0 (omega arith) ∙ take_all 12 vector (omega arith) in
      rw (same_key, eo, same-vector, eh) (refl, blocks-counted key lead vector text room packet-fits)
