-- `Sealed::head` meets its contract: the first block, deciphered into sixteen zeros.
use mathlib.Core.Path.{◌∙◌}
use lib.ListN.{drop}
use Rattle.octets.proofs.RoomLaws.{length-filled}
use Rattle.aes.specs.Prepared.{under}
use Rattle.aes.proofs.CipherLaws.{under-length}
use Rattle.client.specs.OpenReply.{vector_of, reply_text}
use Rattle.client.proofs.ReplyLaws.{text-first}
use Rattle.client.proofs.open.Sealed.head.Goals as goal

pub returns : goal.returns
unfolding reply_text
returns c =
    let a = c.args.self.now in
    rw (c.vector_at-iv.ensures, c.part.ensures) at c.decipher.ensures
    ∙ text-first (under a.p.now) (under-length a.p.now) (vector_of a.reply.now) (drop 28 a.reply.now) (length-filled 12 a.reply.now 0)
