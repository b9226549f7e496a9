-- "An accepted call writes its bytes at the start of the lent room and nothing beyond; a command, and the opening of a reply, writes the payload.":
-- the room after the call is the call's bytes, then what stood there; and how long those bytes are. A theorem for each call that lends a room.
use mathlib.Core.Path.{◌≡◌, refl}
use mathlib.Core.Bool.{not}
use mathlib.Core.List.{List, [], ◌∷◌, ◌++◌}
use Prim.Native.Nat.{ℕ, ◌+◌, ◌-◌, ◌≤◌}
use native.Mathlib.Omega.{arith}
use borrow.Author.Tests.{ltb-false}
use lib.Dec.{eqb}
use lib.ListN.{length, drop, length-append, length-drop}
use Rattle.octets.specs.Checks.{is_zero, ◌when◌}
use Rattle.octets.specs.Little.{octets}
use Rattle.octets.specs.Room.{part, at_start}
use Rattle.octets.proofs.CheckLaws.{passed-of, then-passed}
use Rattle.octets.proofs.RoomLaws.{placed-start, length_part}
use Rattle.aes.specs.Cipher.{cipher}
use Rattle.aes.proofs.CipherLaws.{cipher-length}
use Rattle.capability.specs.Chain.{all_ones, id_block, first_secret}
use Rattle.capability.specs.Bytes.{id_of, four_at, secret_of, narrowed, open?}
use Rattle.capability.specs.Calls.{issue_refusal, issued, narrow_refusal, narrowing, written}
use Rattle.capability.proofs.BytesLaws.{length-capability}
use Rattle.capability.proofs.ChainLaws.{length-step}
use Rattle.state.specs.declared.State.{State}
use Rattle.view.specs.View.{see}
use Rattle.view.specs.declared.View.{View}
use Rattle.fields.specs.Command.{client_of, vector_of, command_lead, open_lead}
use Rattle.fields.specs.Reply.{reply_vector, reply_lead}
use Rattle.packet.specs.Sealed.{text_of}
use Rattle.packet.proofs.SealedLaws.{packet-length}
use Rattle.packet.proofs.CommandLaws.{text-length}
use Rattle.command.specs.Command.{ciph_of, outer_rows, outer, opening, text, command_refusal}
use Rattle.command.specs.Heard.{heard, heard_room}
use Rattle.gateway.specs.Request.{found, asked, request_refusal, requesting, request_room}
use Rattle.gateway.specs.Proof.{third, proving, proof_room}
use Rattle.gateway.specs.Command.{command_heard, command_room}
use Rattle.gateway.specs.Reply as R
use Rattle.gateway.specs.Reply.{reply_bytes, replying, reply_room}
use Rattle.gateway.proofs.RequestLaws.{formed}
use Rattle.gateway.proofs.ProofLaws.{proof-passed}
use Rattle.gateway.proofs.ReplyLaws.{replies}
use Rattle.client.specs.declared.seal.Ask.{Ask}
use Rattle.client.specs.Seal.{ask_text, command_bytes, sealing, seal_room}
use Rattle.client.specs.OpenReply as O
use Rattle.client.specs.OpenReply.{open_refusal, opened, open_room}
use Rattle.client.proofs.SealLaws.{lent}
use Rattle.client.proofs.OpenLaws.{outer-passed}
use Rattle.promises.proofs.ReachedLaws.{length-narrowed}
use Rattle.promises.specs.Step.{answer, request, proof, command, reply}

-- ---- what is written

-- what is seen of host h
abbrev seen : State → ℕ → View
seen s h = see s.rights s.records h

-- "Written: challenge 1, challenge 2 (32 bytes)."
abbrev pub RequestWrites : Type 0
RequestWrites =
    (s : State) (p fresh room : List ℕ) → (answer s (request p fresh room)).number ≡ 0
    → ((answer s (request p fresh room)).room ≡ at_start (part p 4 16 ++ fresh) room) × (length (part p 4 16 ++ fresh) ≡ 32)

-- "Written: client ID (2), two zeros, challenge 3 (20 bytes)."
abbrev pub ProofWrites : Type 0
ProofWrites =
    (s : State) (h : ℕ) (p room : List ℕ) → (answer s (proof h p room)).number ≡ 0
    → ((answer s (proof h p room)).room ≡ at_start (open_lead h ++ third p) room) × (length (open_lead h ++ third p) ≡ 20)

-- the payload of the packet p: its text, deciphered under the key of the host that its open part names, has 64 bytes of fields before it
abbrev pub payload_sent : State → List ℕ → List ℕ
payload_sent s p = drop 64 (text (ciph_of (seen s (client_of p))) p).bytes

-- "packet length less 96"
abbrev pub CommandWrites : Type 0
CommandWrites =
    (s : State) (p room : List ℕ) → (answer s (command p room)).number ≡ 0
    → ((answer s (command p room)).room ≡ at_start (payload_sent s p) room) × (length (payload_sent s p) ≡ length p - 96)

-- the reply's packet under the host's key
abbrev pub reply_sent : State → ℕ → ℕ → List ℕ → List ℕ
reply_sent s h n pay = reply_bytes (seen s h).held.key n pay

-- "vector (12), tag (16), then encrypted sequence number (2), payload length (2), payload"
abbrev pub ReplyWrites : Type 0
ReplyWrites =
    (s : State) (h n : ℕ) (pay room : List ℕ) → (answer s (reply h n pay room)).number ≡ 0
    → ((answer s (reply h n pay room)).room ≡ at_start (reply_sent s h n pay) room) × (length (reply_sent s h n pay) ≡ 32 + length pay)

-- "ID (2), four words, secret (16): 50 bytes."
abbrev pub IssueWrites : Type 0
IssueWrites =
    (master : List ℕ) (id : ℕ) (room : List ℕ) → issue_refusal master id room ≡ 0
    → (written (issue_refusal master id room) (issued master id) room ≡ at_start (issued master id) room) × (length (issued master id) ≡ 50)

abbrev pub NarrowWrites : Type 0
NarrowWrites =
    (c : List ℕ) (w : ℕ) (room : List ℕ) → narrow_refusal c w room ≡ 0
    → (written (narrow_refusal c w room) (narrowing c w) room ≡ at_start (narrowing c w) room) × (length (narrowing c w) ≡ 50)

-- "Open part, 32 bytes", and 64 bytes of fields before the payload
abbrev pub SealWrites : Type 0
SealWrites =
    (key vector c : List ℕ) (ask : Ask) (pay room : List ℕ) → (sealing key vector c ask pay room).number ≡ 0
    → (seal_room key vector c ask pay room ≡ at_start (command_bytes key vector ask c pay) room)
    × (length (command_bytes key vector ask c pay) ≡ 96 + length pay)

-- "opening a reply: less 32": its text has 4 bytes before the payload
abbrev pub OpenWrites : Type 0
OpenWrites =
    (key : List ℕ) (n : ℕ) (p room : List ℕ) → (opened key n p room).number ≡ 0
    → (open_room key n p room ≡ at_start (drop 4 (O.reply_text (cipher key) p).bytes) room)
    × (length (drop 4 (O.reply_text (cipher key) p).bytes) ≡ length p - 32)

-- ---- bytes of k, accepted where the room has k

starts : (n k : ℕ) (x room : List ℕ) → n ≡ 0 → length x ≡ k → k ≤ length room → (written n x room ≡ at_start x room) × (length x ≡ k)
starts n k x room z e h = rw z (placed-start room x (omega arith), e)

-- what a text says after n bytes of fields, where its ciphertext stands in p from `at` on
payload-length : (key iv p : List ℕ) (at n : ℕ) → length (drop n (text_of (cipher key) iv (drop at p)).bytes) ≡ length p - (at + n)
payload-length key iv p at n =
    omega (
      arith,
      length-drop n (text_of (cipher key) iv (drop at p)).bytes,
      text-length (cipher key) (cipher-length key) iv (drop at p),
      length-drop at p,
    )

-- ---- the server's calls

pub request-writes : RequestWrites
unfolding answer requesting request_room request_refusal
request-writes s p fresh room e =
    let stages = then-passed _ _ e in
    let form = formed s.rights p fresh stages.0 in
    let rows = passed-of (23 when is_zero (found s.rights s.names (asked p)) ∷ 7 when _ ∷ []) refl stages.1 in
    starts _ 32 (part p 4 16 ++ fresh) room e
    (omega (arith, length-append (part p 4 16) fresh, length_part p 4 16 (omega arith)))
    (ltb-false (length room) 32 rows.1.0)

pub proof-writes : ProofWrites
unfolding answer proving proof_room open_lead octets
proof-writes s h p room e =
    let known = proof-passed (seen s h) h p (length room) e in
    starts _ 20 (open_lead h ++ third p) room e (omega (arith, length_part p 16 16 (omega arith))) known.room

pub command-writes : CommandWrites
unfolding answer command_heard command_room heard heard_room command_refusal opening outer text
command-writes s p room e =
    let v = seen s (client_of p) in
    let rows = passed-of (outer_rows v p (length room)) refl (then-passed _ _ (then-passed _ _ e).0).0 in
    starts _ (length p - 96) (payload_sent s p) room e
    (payload-length v.held.key (vector_of p) p 32 64)
    (ltb-false (length room) (length p - 96) rows.1.1.1.1.1.1.1.0)

pub reply-writes : ReplyWrites
unfolding answer replying reply_room reply_bytes R.reply_text reply_vector reply_lead octets
reply-writes s h n pay room e =
    let known = replies (seen s h) h n (length pay) (length room) e in
    starts _ (32 + length pay) (reply_sent s h n pay) room e
    (omega (arith, packet-length (seen s h).held.key [] (reply_vector n) (R.reply_text n pay) refl)) known.room

-- ---- the client's

pub issue-writes : IssueWrites
unfolding issue_refusal issued first_secret
issue-writes master id room e =
    let rows = passed-of (28 when not (eqb (length master) 16) ∷ 15 when eqb id 0 ∷ 7 when _ ∷ []) refl e in
    starts _ 50 (issued master id) room e
    (length-capability id (all_ones ∷ all_ones ∷ all_ones ∷ all_ones ∷ []) (first_secret master id) refl (cipher-length master (id_block id)))
    (ltb-false (length room) 50 rows.1.1.0)

pub narrow-writes : NarrowWrites
unfolding narrow_refusal narrowing
narrow-writes c w room e =
    let rows = passed-of (28 when not (eqb (length c) 50) ∷ 32 when eqb w all_ones ∷ 31 when not (open? (four_at c 2)) ∷ 7 when _ ∷ []) refl e in
    starts _ 50 (narrowing c w) room e
    (length-capability (id_of c) (narrowed w (four_at c 2)) _ (length-narrowed w (four_at c 2)) (length-step (secret_of c) w))
    (ltb-false (length room) 50 rows.1.1.1.0)

pub seal-writes : SealWrites
unfolding sealing seal_room command_bytes ask_text command_lead open_lead octets
seal-writes key vector c ask pay room e =
    let known = lent key vector c ask.sequence (length pay) (length room) e in
    starts _ (96 + length pay) (command_bytes key vector ask c pay) room e
    (omega (
      arith,
      packet-length key (open_lead ask.client) vector (ask_text ask c pay) known.vector,
      length-append (drop 2 c) pay,
      length-drop 2 c,
    ))
    known.room

pub open-writes : OpenWrites
unfolding opened open_room open_refusal O.reply_text
open-writes key n p room e =
    let known = outer-passed key n p room (then-passed _ _ e).0 in
    starts _ (length p - 32) (drop 4 (O.reply_text (cipher key) p).bytes) room e (payload-length key (O.vector_of p) p 28 4) known.3
