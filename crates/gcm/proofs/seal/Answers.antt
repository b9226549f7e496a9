-- `gcm::seal` meets its contract: the text that was copied to the start of the room is sealed there under the key's own subkey.
use mathlib.Core.Bool.{true}
use mathlib.Core.Path.{◌≡◌, ap, ap₂, ◌∙◌}
use mathlib.Core.List.{List, ◌++◌}
use Prim.Native.Nat.{ℕ, ◌+◌, ◌≤◌}
use native.Mathlib.Omega.{arith}
use lib.ListN.{length, drop}
use lib.Seq.{length-take-le}
use Rattle.octets.proofs.PlacedLaws.{placed-whole}
use Rattle.ghash.specs.Ghash.{blocks_in}
use Rattle.aes.specs.Prepared.{under}
use Rattle.aes.specs.Cipher.{cipher}
use Rattle.gcm.specs.Gcm.{Sealed, seal_under, seal}
use Rattle.gcm.proofs.AnswerLaws.{keyed, sealing-done, room-sealed, sealing-short, room-unsealed}
use Rattle.gcm.proofs.seal.Goals as goal

pub returns-then-room-n : goal.returns-then-room-n
returns-then-room-n c =
    let a = c.args in
    let s = seal (cipher a.key) a.iv a.a.now a.text.now in
    (sealing-short a.text.now a.room.now c.if-room-n.true s, room-unsealed a.text.now a.room.now c.if-room-n.true s)

pub overflow_add-result : goal.overflow_add-result
unfolding blocks_in
overflow_add-result c = omega arith

pub returns : goal.returns
unfolding seal
returns c =
    let a = c.args in
    let text = a.text.now in
    let room = a.room.now in
    let fit : length text ≤ length room = c.if-room-n.false in
    let ready = c.keyed.result in
    let done : seal_under (under ready.0) ready.1 a.iv a.a.now c.put.new.room ≡ _ =
    ap (seal_under (under ready.0) ready.1 a.iv a.a.now) (c.put.ensures ∙ placed-whole _ text (omega (arith, length-take-le (length text) room fit)))
    ∙ keyed (λ f h. seal_under f h a.iv a.a.now text) a.key ready.0 ready.1 c.keyed.ensures.0 c.keyed.ensures.1 in (
      ap₂ (λ (t : List ℕ) (n : ℕ). record { sealed = true; tag = t; blocks = n + 2 }) (c.seal_in_place-tag.ensures.1 ∙ ap (λ (z : Sealed). z.tag) done) c.blocks_in.ensures
          ∙ sealing-done text room fit a.key a.iv a.a.now,
      ap (λ (x : List ℕ). x ++ drop (length text) room) (c.seal_in_place-tag.ensures.0 ∙ ap (λ (z : Sealed). z.bytes) done)
          ∙ room-sealed text room fit a.key a.iv a.a.now,
    )
