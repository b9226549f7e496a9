-- Demand 2: "An accepted one, built again with its vector, gives the same bytes": of an accepted command, the client's definition of a sealed
-- command, of the connection's key, the packet's own vector, and the fields, the capability and the payload that the answer hands out, is the packet
-- (`command-rebuilt`); and the client's own call with these accepts and writes it (`command-resealed`). Of a state and a packet whose bytes are
-- bytes.
use mathlib.Core.Path.{◌≡◌, refl, sym, ap, ap₂, ◌∙◌}
use mathlib.Core.Bool.{true, false≢true}
use mathlib.Core.List.{List, [], ◌∷◌, ◌++◌, append_assoc, append-nil}
use Prim.Native.Nat.{ℕ, ◌-◌, ◌*◌, ◌≤◌, ◌<◌}
use native.Mathlib.Omega.{arith}
use borrow.Author.Tests.{not-false, eqb-true, ltb-true, ltb-false, leb-false}
use lib.Dec.{ltb}
use lib.ListN.{length, drop, length-drop}
use lib.Seq.{take-take, take-add, take_at, drop_at, drop-cons}
use Rattle.octets.specs.Checks.{◌when◌, is_zero, Passed}
use Rattle.octets.specs.Little.{octets, Bytes}
use Rattle.octets.specs.Room.{part, number_at, placed, filled, at_start}
use Rattle.octets.proofs.CheckLaws.{passed-of, then-passed, is_zero-true, pick_ind}
use Rattle.octets.proofs.LittleLaws.{length-octets, number-byte}
use Rattle.octets.proofs.RoomLaws.{length_part, filled-there, length-filled, placed-start}
use Rattle.aes.specs.Cipher.{cipher}
use Rattle.aes.proofs.CipherLaws.{cipher-length}
use Rattle.capability.specs.Bytes.{id_of, word_at, four_at, word_bytes, capability}
use Rattle.capability.proofs.BytesLaws.{id-back, length-capability}
use Rattle.state.specs.declared.State.{State}
use Rattle.state.specs.declared.transitions.Record.{Record}
use Rattle.state.specs.declared.transitions.Phase.{Phase}
use Rattle.state.specs.declared.transitions.Phase.TheVariants.{Idle, Waiting, Open}
use Rattle.state.specs.Flat.{record_of, Sized}
use Rattle.state.proofs.RecordLaws.{sized-record_of}
use Rattle.view.specs.Phases.{fresh}
use Rattle.view.specs.View.{see}
use Rattle.view.specs.declared.View.{View}
use Rattle.view.proofs.ViewLaws.{held-there}
use Rattle.fields.specs.Command.{client_of, open_zeros, additional, vector_of, tag_in, encrypted, order_of, payload_of, command_lead, open_lead}
use Rattle.fields.specs.declared.Order.{Order}
use Rattle.packet.specs.Sealed.{right_tag, sealed_packet}
use Rattle.packet.proofs.CommandLaws.{text-length}
use Rattle.command.specs.Command.{ciph_of, outer_rows, outer, tagged, text, order, inner_rows, inner, judged, opening, weighed, command_refusal}
use Rattle.command.specs.Heard.{heard, heard_room}
use Rattle.gateway.specs.Command.{command_heard, command_room}
use Rattle.client.specs.Seal.{seal_refusal, ask_text, command_bytes, sealing, seal_room}
use Rattle.promises.specs.Step.{answer, command}
use Rattle.promises.specs.Packets.{key_of, ask_of, shown, payload_in, rebuilt, resealing, reseal_room}
use Rattle.promises.proofs.Built.{seal-accepts}
use Rattle.promises.proofs.ByteLaws.{part_bytes, rest-bytes, number-low, octets-back, joined, field, text-bytes}
use Rattle.promises.proofs.SealedBack.{sealed-again}

-- the text of an order, of which the zeros are zeros and the payload has its length
module _ (t : List ℕ) (bytes : Bytes t) (long : 64 ≤ length t) (none : number_at t 13 3 ≡ 0) (size : number_at t 10 2 ≡ length (drop 64 t)) where
  abbrev o : Order
  o = order_of t

  id_same : id_of (shown o) ≡ number_at t 8 2
  unfolding order_of
  id_same = id-back o.capability o.words o.secret (number-low t bytes 8 2 (omega arith))

  after-id : drop 2 (shown o) ≡ word_bytes (four_at t 16) ++ filled 16 t 48
  unfolding order_of capability
  after-id =
      ap (drop 2) (append_assoc (octets 2 o.capability) (word_bytes o.words) o.secret)
      ∙ drop_at (octets 2 o.capability) (word_bytes o.words ++ o.secret) 2 (length-octets 2 o.capability)

  secret-same : filled 16 t 48 ++ drop 64 t ≡ drop 48 t
  secret-same = rw (filled-there 16 t 48 (omega arith)) (joined t 48 16 (drop 64 t) refl)

  words_same : word_bytes (four_at t 16) ++ (filled 16 t 48 ++ drop 64 t) ≡ drop 16 t
  unfolding word_bytes word_at
  words_same =
      simp (append_assoc, append-nil)
      (field t bytes 16 8 (omega arith) (field t bytes 24 8 (omega arith)
      (field t bytes 32 8 (omega arith) (field t bytes 40 8 (omega arith) secret-same))))

  command-same : (rest : List ℕ) → rest ≡ drop 16 t → number_at t 12 1 ∷ 0 ∷ 0 ∷ 0 ∷ rest ≡ drop 12 t
  unfolding octets
  command-same rest e =
      let zeros : 0 ∷ 0 ∷ 0 ∷ rest ≡ drop 13 t = rw none at (field t bytes 13 3 (omega arith) e) in
      rw (number-byte t 12 (omega arith), zeros) (sym (drop-cons t 12 0 (omega arith)))

  text-again : ask_text (ask_of o) (shown o) (payload_of t) ≡ t
  unfolding ask_text command_lead order_of
  text-again =
      rw (id_same, after-id, ← size)
      (simp append_assoc
      (field t bytes 0 2 (omega arith) (field t bytes 2 2 (omega arith) (field t bytes 4 2 (omega arith) (field t bytes 6 2 (omega arith)
      (field t bytes 8 2 (omega arith) (field t bytes 10 2 (omega arith) (command-same _ words_same))))))))

-- ---- the packet

module _ (key p : List ℕ) (bk : Bytes key) (bp : Bytes p) (long : 96 ≤ length p) where
  abbrev t : List ℕ
  t = (text (cipher key) p).bytes

  text-long : length t ≡ length p - 32
  unfolding text
  text-long = text-length (cipher key) (cipher-length key) (vector_of p) (encrypted p) ∙ length-drop 32 p

  bytes-text : Bytes t
  unfolding text
  bytes-text = text-bytes key (vector_of p) (encrypted p) bk (rest-bytes p bp 32)

  lead-again : open_zeros p ≡ 0 → open_lead (client_of p) ≡ additional p
  unfolding open_lead octets
  lead-again z =
      let first : octets 2 (client_of p) ≡ part p 0 2 = octets-back p bp 0 2 (omega arith) in
      let second : 0 ∷ 0 ∷ [] ≡ part p 2 2 = rw z at (octets-back p bp 2 2 (omega arith)) in
      ap₂ (λ (x y : List ℕ). x ++ y) first second ∙ sym (take-add 2 2 p)

  -- opened with the right tag, it is what sealing its text gives
  module _ (right : tagged (cipher key) p ≡ 0) where
    tag-true : right_tag (cipher key) (additional p) (vector_of p) (tag_in p) (encrypted p) ≡ true
    unfolding tagged
    tag-true = not-false _ (passed-of (8 when _ ∷ []) refl right).0

    packet-again : sealed_packet key (additional p) (part p 4 12) t ≡ p
    unfolding text
    packet-again = sealed-again key p 4 (omega arith) tag-true

    -- so is the command that its order asks for, where the fields agree with the packet
    command-again : open_zeros p ≡ 0 → (order_of t).client ≡ client_of p → (order_of t).zeros ≡ 0 → (order_of t).length ≡ length p - 96
        → command_bytes key (part p 4 12) (ask_of (order_of t)) (shown (order_of t)) (payload_of t) ≡ p
    unfolding command_bytes order_of
    command-again z client none size =
        rw (text-again t bytes-text (omega (arith, text-long)) none (omega (arith, text-long, length-drop 64 t)), client, lead-again z) packet-again

-- ---- an accepted command

-- the key of each host is made of bytes
key-bytes : (s : State) → Bytes s.records.keys → (h : ℕ) → Bytes (key_of s h)
unfolding record_of
key-bytes s b h =
    pick_ind (λ (r : Record). Bytes r.key) (ltb (h - 1) 32) (λ e. part_bytes s.records.keys b ((h - 1) * 16) 16) (omega arith)

-- a number after another isn't 0
fresh-some : (ph : Phase) (n : ℕ) → fresh ph n ≡ true → 0 < n
fresh-some Idle n e = absurd (false≢true e)
fresh-some Waiting n e = absurd (false≢true e)
fresh-some (Open last owed) n e = omega (arith, ltb-true last n e)

shown-long : (t : List ℕ) → length (shown (order_of t)) ≡ 50
unfolding order_of
shown-long t = length-capability (order_of t).capability (order_of t).words (order_of t).secret refl (length-filled 16 t 48)

module _ (s : State) (bytes : Bytes s.records.keys) (p room : List ℕ) (bp : Bytes p) (accepted : (answer s (command p room)).number ≡ 0) where
  abbrev v : View
  v = see s.rights s.records (client_of p)

  abbrev key : List ℕ
  key = key_of s (client_of p)

  -- what its text says, under the connection's key
  abbrev T : List ℕ
  T = (text (cipher key) p).bytes

  zero_number : command_refusal v s.rights p (length room) ≡ 0
  unfolding answer command_heard heard
  zero_number = accepted

  open-passed : opening v p (length room) ≡ 0
  unfolding command_refusal
  open-passed = (then-passed _ _ zero_number).0

  outside : Passed (outer_rows v p (length room))
  unfolding opening outer
  outside = passed-of (outer_rows v p (length room)) refl (then-passed _ _ open-passed).0

  judged-passed : judged v s.rights p (order (ciph_of v) p) ≡ 0
  unfolding command_refusal weighed
  judged-passed = (then-passed _ _ (then-passed (opening v p (length room)) (weighed v s.rights p (order (ciph_of v) p)) zero_number).1).0

  inside : Passed (inner_rows v (client_of p) (length p - 96) (order (ciph_of v) p))
  unfolding judged inner
  inside = passed-of (inner_rows v (client_of p) (length p - 96) (order (ciph_of v) p)) refl (then-passed _ _ judged-passed).0

  key-same : v.held.key ≡ key
  unfolding see
  key-same = ap (λ (r : Record). r.key) (held-there s.rights s.records (client_of p) outside.1.1.1.1.0)

  tag-passed : tagged (cipher key) p ≡ 0
  unfolding opening
  tag-passed = rw key-same at (then-passed (outer v p (length room)) (tagged (ciph_of v) p) open-passed).1

  order_same : (answer s (command p room)).order ≡ order_of T
  unfolding answer command_heard heard order
  order_same = rw (zero_number, key-same)

  long : 96 ≤ length p
  long = ltb-false (length p) 96 outside.1.0

  payload-long : length (payload_of T) ≡ length p - 96
  payload-long = omega (arith, length-drop 64 T, text-long key p (key-bytes s bytes (client_of p)) bp long)

  payload_same : payload_in p (answer s (command p room)) ≡ payload_of T
  unfolding answer command_room heard_room
  payload_same =
      let fits : length p - 96 ≤ length room = ltb-false (length room) (length p - 96) outside.1.1.1.1.1.1.1.0 in
      rw (zero_number, key-same, placed-start room (payload_of T) (omega (arith, payload-long)))
      (take_at (payload_of T) (drop (length (payload_of T)) room) (length p - 96) payload-long)

  same_bytes : command_bytes key (part p 4 12) (ask_of (order_of T)) (shown (order_of T)) (payload_of T) ≡ p
  unfolding order
  same_bytes =
      let said = rw key-same at inside in
      command-again key p (key-bytes s bytes (client_of p)) bp long tag-passed
      (is_zero-true (open_zeros p) (not-false (is_zero (open_zeros p)) outside.1.1.1.0))
      (eqb-true (order_of T).client (client_of p) (not-false _ said.0))
      (is_zero-true (order_of T).zeros (not-false _ said.1.0))
      (eqb-true (order_of T).length (length p - 96) (not-false _ said.1.1.0))

  pub command-rebuilt : rebuilt s p (answer s (command p room)) ≡ p
  command-rebuilt = rw (order_same, payload_same) same_bytes

  accepts : Sized s.records → (other : List ℕ) → length p ≤ length other
      → seal_refusal key (part p 4 12) (shown (order_of T)) (order_of T).sequence (length (payload_of T)) (length other) ≡ 0
  unfolding order
  accepts sized other fits =
      let said = rw key-same at inside in
      let short : length p ≤ 16480 = ltb-false 16480 (length p) outside.1.1.0 in
      let first : number_at (part p 4 12) 0 1 < 128 =
      rw (take-take 1 12 (drop 4 p) (omega arith)) (leb-false 128 (number_at p 4 1) outside.1.1.1.1.1.0) in
      let n : ℕ = (order_of T).sequence in
      let some : 0 < n = fresh-some v.held.phase n (not-false (fresh v.held.phase n) said.1.1.1.0) in
      seal-accepts key (part p 4 12) (shown (order_of T)) n (length (payload_of T)) (length other)
      (record {
        key = (sized-record_of s.records (client_of p - 1) sized).key;
        vector = length_part p 4 12 (omega (arith, long));
        capability = shown-long T;
        payload = omega (arith, payload-long);
        room = omega (arith, payload-long, long);
      }) first (λ e. omega arith)

  -- it accepts, in every room that holds the packet, and writes the packet at the start
  pub command-resealed : Sized s.records → (other : List ℕ) → length p ≤ length other
      → ((resealing s p (answer s (command p room)) other).number ≡ 0) × (reseal_room s p (answer s (command p room)) other ≡ at_start p other)
  unfolding sealing seal_room
  command-resealed sized other fits =
      rw (order_same, payload_same, accepts sized other fits) (refl, ap (placed other 0) same_bytes ∙ placed-start other p fits)
