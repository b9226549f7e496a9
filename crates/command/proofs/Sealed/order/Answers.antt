-- `Sealed::order` meets its contract: 64 bytes placed in a room of 64 are the room.
use mathlib.Core.Path.{ap, ap₂, ◌∙◌}
use mathlib.Core.List.{List}
use Prim.Native.Nat.{ℕ}
use lib.ListN.{replicate}
use Rattle.octets.specs.Room.{part, placed}
use Rattle.octets.proofs.RoomLaws.{length_part}
use Rattle.octets.proofs.PlacedLaws.{placed-whole}
use Rattle.aes.specs.Prepared.{under}
use Rattle.aes.proofs.CipherLaws.{under-length}
use Rattle.gcm.specs.Gctr.{gctr}
use Rattle.gcm.specs.Gcm.{counter}
use Rattle.gcm.proofs.GctrLaws.{gctr-length}
use Rattle.fields.specs.Command.{vector_of, order_of}
use Rattle.command.proofs.HeardLaws.{order-read}
use Rattle.command.proofs.Sealed.order.Goals as goal

pub returns : goal.returns
returns c =
    let a = c.args.self.now in
    let p = a.p.now in
    let s = a.packet.now in
    let long = gctr-length (under p) (under-length p) (counter (vector_of s) 2) (part s 32 64) ∙ length_part s 32 64 a.long in
    c.order_of.ensures
    ∙ ap order_of (
    c.decipher.ensures
    ∙ ap₂ (λ (iv x : List ℕ). placed (replicate 64 0) 0 (gctr (under p) (counter iv 2) x).bytes) c.vector_at.ensures c.part.ensures
    ∙ placed-whole (replicate 64 0) (gctr (under p) (counter (vector_of s) 2) (part s 32 64)).bytes long
    )
    ∙ order-read (under p) (under-length p) s a.long
