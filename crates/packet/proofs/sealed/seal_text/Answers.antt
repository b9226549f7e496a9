-- `packet::sealed::seal_text` meets its contract: the text is sealed under the key's own subkey.
use mathlib.Core.Path.{ap, ◌∙◌}
use Rattle.gcm.specs.Gcm.{Sealed, seal_under, seal}
use Rattle.gcm.proofs.AnswerLaws.{keyed}
use Rattle.packet.proofs.sealed.seal_text.Goals as goal

pub returns : goal.returns
unfolding seal
returns c =
    let a = c.args in
    let done = keyed (λ f g. seal_under f g a.iv a.a.now a.text.now) a.key _ _ c.prepare-p.ensures c.encrypt_prepared-h.ensures in
    (c.seal_in_place.ensures.0 ∙ ap (λ (z : Sealed). z.bytes) done, c.seal_in_place.ensures.1 ∙ ap (λ (z : Sealed). z.tag) done)
