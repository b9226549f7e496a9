-- "The work: .. the client's .. sealing of commands": a command that the client builds opens at the server. Its tag is right, its text says the very
-- fields that were asked for, the capability's ID, words and secret, and its payload is the one that was sealed (`sealed-opens`, and of any vector
-- and capability of their lengths `built-tagged`, `built-order` and `built-payload`). And the client seals what is lent in its lengths
-- (`seal-accepts`).
use mathlib.Core.Path.{◌≡◌, refl, ap, ◌∙◌}
use mathlib.Core.Logic.{◌≢◌}
use mathlib.Core.List.{List, [], ◌∷◌, ◌++◌}
use Prim.Native.Nat.{ℕ, ◌+◌, ◌≤◌, ◌<◌}
use native.Mathlib.Omega.{arith}
use borrow.Author.Tests.{eq-eqb, ne_eqb, le-ltb, lt-leb}
use lib.ListN.{length, drop, length-append, length-drop}
use lib.Seq.{take-append-le, drop-append-le, drop-drop, drop_at}
use Rattle.octets.specs.Little.{number, octets, Bytes}
use Rattle.octets.specs.Room.{part, number_at, filled, at_start}
use Rattle.octets.proofs.RoomLaws.{filled-there, placed-start}
use Rattle.aes.specs.Cipher.{cipher}
use Rattle.capability.specs.Bytes.{id_of, word_at, secret_of}
use Rattle.fields.specs.Command.{order_of, payload_of, command_lead, open_lead}
use Rattle.packet.proofs.SealedLaws.{packet-length}
use Rattle.command.specs.Command.{tagged, text, order}
use Rattle.client.specs.Seal.{seal_refusal, sealing, seal_room, ask_text, command_bytes}
use Rattle.client.specs.declared.seal.Ask.{Ask}
use Rattle.client.proofs.SealLaws.{Lent, lent}
use Rattle.promises.specs.Packets.{Fits, asked}
use Rattle.promises.proofs.ByteLaws.{number-low}
use Rattle.promises.proofs.SealedBack.{sealed-tag, sealed-text}

-- a part of what the capability has after its ID, with a payload behind it
part-after : (c payload : List ℕ) (j size : ℕ) → 2 + j + size ≤ length c → part (drop 2 c ++ payload) j size ≡ part c (2 + j) size
part-after c payload j size h =
    let l = length-drop 2 c in
    let m = length-drop (2 + j) c in
    rw (drop-append-le j (drop 2 c) payload (omega arith), drop-drop j 2 c) (take-append-le size (drop (2 + j) c) payload (omega arith))

-- the text
module _ (capability : List ℕ) (a : Ask) (payload : List ℕ) (ec : length capability ≡ 50) (bytes : Bytes capability)
    (few : length payload ≤ 16384) (f : Fits a) where
  abbrev T : List ℕ
  T = ask_text a capability payload

  id-low : id_of capability < 65536
  unfolding id_of
  id-low = number-low capability bytes 0 2 (omega arith)

  pub asked-long : length (ask_text a capability payload) ≡ 64 + length payload
  unfolding ask_text command_lead octets
  asked-long = omega (arith, length-append (drop 2 capability) payload, length-drop 2 capability)

  pub asked-order : order_of (ask_text a capability payload) ≡ asked a capability payload
  unfolding order_of ask_text command_lead octets number word_at secret_of
  asked-order =
      let client : number_at T 0 2 ≡ a.client = omega arith in
      let sequence : number_at T 2 2 ≡ a.sequence = omega arith in
      let group : number_at T 4 2 ≡ a.group = omega arith in
      let interface : number_at T 6 2 ≡ a.interface = omega arith in
      let id : number_at T 8 2 ≡ id_of capability = omega (arith, id-low) in
      let size : number_at T 10 2 ≡ length payload = omega arith in
      let command : number_at T 12 1 ≡ a.command = omega arith in
      let zeros : number_at T 13 3 ≡ 0 = omega arith in
      let w0 = ap number (part-after capability payload 0 8 (omega arith)) in
      let w1 = ap number (part-after capability payload 8 8 (omega arith)) in
      let w2 = ap number (part-after capability payload 16 8 (omega arith)) in
      let w3 = ap number (part-after capability payload 24 8 (omega arith)) in
      let secret : filled 16 T 48 ≡ secret_of capability =
      filled-there 16 T 48 (omega (arith, asked-long)) ∙ part-after capability payload 32 16 (omega arith) in
      λ i. record {
        client = client i;
        sequence = sequence i;
        group = group i;
        interface = interface i;
        capability = id i;
        length = size i;
        command = command i;
        zeros = zeros i;
        words = w0 i ∷ w1 i ∷ w2 i ∷ w3 i ∷ [];
        secret = secret i;
      }

  pub asked-payload : payload_of (ask_text a capability payload) ≡ payload
  unfolding ask_text command_lead octets
  asked-payload = drop_at (drop 2 capability) payload 48 (omega (arith, length-drop 2 capability))

-- the packet, of a vector and a capability of their lengths
module _ (key vector capability : List ℕ) (a : Ask) (payload : List ℕ) (ev : length vector ≡ 12) (ec : length capability ≡ 50)
    (bytes : Bytes capability) (few : length payload ≤ 16384) (f : Fits a) where
  abbrev p : List ℕ
  p = command_bytes key vector a capability payload

  pub packet-long : length (command_bytes key vector a capability payload) ≡ 96 + length payload
  unfolding command_bytes open_lead octets
  packet-long =
      omega (arith, packet-length key (open_lead a.client) vector (ask_text a capability payload) ev, asked-long capability a payload ec bytes few f)

  pub built-text : (text (cipher key) (command_bytes key vector a capability payload)).bytes ≡ ask_text a capability payload
  unfolding text command_bytes open_lead octets
  built-text = sealed-text key (open_lead a.client) vector (ask_text a capability payload) 4 refl ev

  pub built-tagged : tagged (cipher key) (command_bytes key vector a capability payload) ≡ 0
  unfolding tagged command_bytes open_lead octets
  built-tagged = rw (sealed-tag key (open_lead a.client) vector (ask_text a capability payload) 4 refl ev)

  pub built-order : order (cipher key) (command_bytes key vector a capability payload) ≡ asked a capability payload
  unfolding order
  built-order = ap order_of built-text ∙ asked-order capability a payload ec bytes few f

  pub built-payload : payload_of (text (cipher key) (command_bytes key vector a capability payload)).bytes ≡ payload
  built-payload = ap payload_of built-text ∙ asked-payload capability a payload ec bytes few f

-- sealing accepts what is lent in its lengths, with a low vector and a number
pub seal-accepts : (key vector capability : List ℕ) (sequence payload room : ℕ) → Lent key vector capability payload room
    → number_at vector 0 1 < 128 → sequence ≢ 0 → seal_refusal key vector capability sequence payload room ≡ 0
unfolding seal_refusal
seal-accepts key vector capability sequence payload room l low some =
    rw (
      eq-eqb (length key) 16 l.key,
      eq-eqb (length vector) 12 l.vector,
      eq-eqb (length capability) 50 l.capability,
      lt-leb 128 (number_at vector 0 1) low,
      ne_eqb sequence 0 some,
      le-ltb 16384 payload l.payload,
      le-ltb room (96 + payload) l.room,
    )

-- what the client writes at the start of its room, where sealing accepts, opens so
pub sealed-opens : (key vector capability : List ℕ) (a : Ask) (payload room : List ℕ)
    → (sealing key vector capability a payload room).number ≡ 0 → Bytes capability → Fits a
    → (seal_room key vector capability a payload room ≡ at_start (command_bytes key vector a capability payload) room)
    × (tagged (cipher key) (command_bytes key vector a capability payload) ≡ 0)
    × (order (cipher key) (command_bytes key vector a capability payload) ≡ asked a capability payload)
    × (payload_of (text (cipher key) (command_bytes key vector a capability payload)).bytes ≡ payload)
unfolding sealing seal_room
sealed-opens key vector capability a payload room accepted bytes f =
    let e : seal_refusal key vector capability a.sequence (length payload) (length room) ≡ 0 = accepted in
    let l = lent key vector capability a.sequence (length payload) (length room) e in
    let fits = packet-long key vector capability a payload l.vector l.capability bytes l.payload f in (
      rw e (placed-start room (command_bytes key vector a capability payload) (omega arith)),
      built-tagged key vector capability a payload l.vector l.capability bytes l.payload f,
      built-order key vector capability a payload l.vector l.capability bytes l.payload f,
      built-payload key vector capability a payload l.vector l.capability bytes l.payload f,
    )
