-- `gcm::seal_in_place` meets its contract: the room is enciphered, and then the tag is that of what stands there.
use borrow.Author.Rules.{rules}
use mathlib.Core.Path.{◌≡◌, ap, ◌∙◌}
use mathlib.Core.List.{List}
use Prim.Native.Nat.{ℕ}
use lib.ListN.{length}
use Rattle.aes.specs.Prepared.{under}
use Rattle.gcm.specs.Gctr.{gctr}
use Rattle.gcm.specs.Gcm.{tag_of, seal_under}
use Rattle.gcm.proofs.GcmLaws.{first_block}
use Rattle.gcm.proofs.seal_in_place.Goals as goal

pub returns : goal.returns
unfolding seal_under
returns c =
    let a = c.args in
    let e : length a.iv ≡ 12 = search rules in
    let sealed = c.crypt.ensures.0 ∙ ap (λ (b : List ℕ). (gctr (under a.p.now) b a.room.now).bytes) (first_block a.iv e) in
    (sealed, c.tag.ensures ∙ ap (λ (l : List ℕ). (tag_of (under a.p.now) a.h a.iv a.a.now l).bytes) sealed)
