-- `Sealed::tag_right` meets its contract, with the reply's parts as read.
use Rattle.octets.proofs.RoomLaws.{part-rest}
use Rattle.client.proofs.open.Sealed.tag_right.Goals as goal

pub returns : goal.returns
returns c = rw (c.vector_at.ensures, c.bytes_at.ensures, part-rest c.args.self.now.reply.now 28) at c.authentic.ensures
