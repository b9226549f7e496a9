-- `packet::sealed::authentic` meets its contract: the tag is judged under the cipher's own subkey.
use mathlib.Core.Path.{ap, ◌∙◌}
use mathlib.Core.List.{List}
use Prim.Native.Nat.{ℕ}
use Rattle.octets.specs.Same.{same}
use Rattle.aes.specs.Prepared.{under}
use Rattle.gcm.specs.Gcm.{tag_of}
use Rattle.packet.specs.Sealed.{right_tag}
use Rattle.packet.proofs.sealed.authentic.Goals as goal

pub returns : goal.returns
unfolding right_tag
returns c =
    let a = c.args in
    c.authentic.ensures
    ∙ ap (λ (h : List ℕ). same (tag_of (under a.p.now) h a.iv a.a.now a.c.now).bytes a.t) c.encrypt_prepared-h.ensures
