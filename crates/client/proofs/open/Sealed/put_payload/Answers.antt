-- `Sealed::put_payload` meets its contract: the first block's bytes are put, and what comes after them is deciphered in place.
use mathlib.Core.Path.{sym, ap, ◌∙◌}
use mathlib.Core.List.{List}
use Prim.Native.Nat.{ℕ, ◌-◌}
use native.Mathlib.Omega.{arith}
use lib.ListN.{length, drop, length-drop}
use lib.Seq.{drop-drop}
use Rattle.octets.specs.Room.{part, placed, filled}
use Rattle.octets.proofs.RoomLaws.{part-rest, part_end, length-filled}
use Rattle.aes.specs.Prepared.{under}
use Rattle.aes.proofs.CipherLaws.{under-length}
use Rattle.gcm.specs.Gctr.{gctr}
use Rattle.gcm.specs.Gcm.{counter}
use Rattle.packet.specs.Sealed.{text_of}
use Rattle.client.specs.OpenReply.{vector_of, reply_text}
use Rattle.client.proofs.ReplyLaws.{payload-short, payload-placed}
use Rattle.client.proofs.open.Sealed.put_payload.Goals as goal

pub returns-else-m-gt12 : goal.returns-else-m-gt12
unfolding reply_text
returns-else-m-gt12 c =
    let a = c.args.self.now in
    let m = length a.reply.now - 32 in
    let least = a.long in
    let long = length-drop 28 a.reply.now in
    c.put.ensures
    ∙ ap (placed c.args.room.now 0)
    (c.part.ensures
    ∙ ap (λ (t : List ℕ). part t 4 m) c.requires.1
    ∙ payload-short (under a.p.now) (under-length a.p.now) (vector_of a.reply.now) (drop 28 a.reply.now) (length-filled 12 a.reply.now 0)
    (omega arith) m (omega arith) c.if-m-gt12.false)

pub returns-then-m-gt12 : goal.returns-then-m-gt12
unfolding reply_text
returns-then-m-gt12 c =
    let a = c.args.self.now in
    let m = length a.reply.now - 32 in
    let text = (text_of (under a.p.now) (vector_of a.reply.now) (drop 28 a.reply.now)).bytes in
    let least = a.long in
    let long = length-drop 28 a.reply.now in
    let held = length-filled 16 text 0 in
    let rest = part-rest a.reply.now 44 ∙ sym (drop-drop 16 28 a.reply.now) in
    payload-placed (under a.p.now) (under-length a.p.now) (vector_of a.reply.now) (drop 28 a.reply.now) (length-filled 12 a.reply.now 0)
    (omega arith) (omega arith) c.args.room.now _ _ _ _ (omega arith)
    (c.part.ensures
    ∙ ap (λ (t : List ℕ). part t 4 m) c.requires.1
    ∙ part_end (filled 16 text 0) 4 m (omega arith)
    ∙ sym (part_end (filled 16 text 0) 4 12 (omega arith)))
    (ap (λ (x : List ℕ). (gctr (under a.p.now) (counter (vector_of a.reply.now) 3) x).bytes) rest)
    c.put.ensures
    (rw c.vector_at-iv.ensures at c.decipher.ensures)
