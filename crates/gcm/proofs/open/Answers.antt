-- `gcm::open` meets its contract: the tag is judged under the key's own subkey, and only where it is right the text that was
-- copied to the start of the room is deciphered there.
use borrow.Kind.Array.{e_int, good_length}
use mir.Syntax.{w8}
use borrow.Author.Tests.{not-true, not-false}
use mathlib.Core.Path.{◌≡◌, sym, ap, ap₂, ◌∙◌}
use mathlib.Core.List.{List, ◌++◌}
use Prim.Native.Nat.{ℕ, ◌+◌, ◌≤◌}
use native.Mathlib.Omega.{arith}
use lib.ListN.{length, drop}
use lib.Seq.{length-take-le}
use Rattle.octets.specs.Same.{same}
use Rattle.octets.proofs.PlacedLaws.{placed-whole}
use Rattle.ghash.specs.Ghash.{blocks_in}
use Rattle.aes.specs.Prepared.{under}
use Rattle.aes.specs.Cipher.{cipher}
use Rattle.gcm.specs.Gctr.{Out, inc32, gctr}
use Rattle.gcm.specs.Gcm.{j0, counter, tag_of, open'}
use Rattle.gcm.specs.Answers.{Plain}
use Rattle.gcm.proofs.GctrLaws.{gctr-count}
use Rattle.gcm.proofs.GcmLaws.{first_block}
use Rattle.gcm.proofs.AnswerLaws.{keyed, opening-short, room-unopened, opening-wrong, room-wrong, opening-right, room-right}
use Rattle.gcm.proofs.open.Goals as goal

pub returns-then-room-n : goal.returns-then-room-n
returns-then-room-n c =
    let a = c.args in
    let o = open' (cipher a.key) a.iv a.a.now a.text.now a.t in
    (opening-short a.text.now a.room.now c.if-room-n.true o, room-unopened a.text.now a.room.now c.if-room-n.true o)

pub returns-then-not-authentic : goal.returns-then-not-authentic
returns-then-not-authentic c =
    let a = c.args in
    let judged = keyed (λ f k. same (tag_of f k a.iv a.a.now a.text.now).bytes a.t) a.key _ _ c.keyed.ensures.0 c.keyed.ensures.1 in
    let wrong = sym judged ∙ sym c.authentic.ensures ∙ not-true c.authentic.result c.if-not-authentic.true-raw in (
      opening-wrong a.text.now a.room.now c.if-room-n.false a.key a.iv a.a.now a.t wrong,
      room-wrong a.text.now a.room.now c.if-room-n.false a.key a.iv a.a.now a.t wrong,
    )

pub overflow_add-result : goal.overflow_add-result
unfolding blocks_in
overflow_add-result c = omega (arith, ap length (c.put.ensures ∙ placed-whole _ c.args.text.now (omega (arith, length-take-le (length c.args.text.now) c.args.room.now c.if-room-n.false))), c.crypt.ensures.1 ∙ gctr-count _ _ _)

pub returns : goal.returns
returns c =
    let a = c.args in
    let text = a.text.now in
    let room = a.room.now in
    let fit : length text ≤ length room = c.if-room-n.false in
    let ready = c.keyed.result in
    let e12 : length a.iv ≡ 12 = good_length (e_int w8) 12 a.iv _ c.well_formed.1.0 in
    let judged = keyed (λ f s. same (tag_of f s a.iv a.a.now text).bytes a.t) a.key ready.0 ready.1 c.keyed.ensures.0 c.keyed.ensures.1 in
    let right = sym judged ∙ sym c.authentic.ensures ∙ not-false c.authentic.result c.if-not-authentic.false-raw in
    let done : gctr (under ready.0) (counter a.iv 2) c.put.new.room ≡ _ =
    ap₂ (λ (icb x : List ℕ). gctr (under ready.0) icb x) (first_block a.iv e12) (c.put.ensures ∙ placed-whole _ text (omega (arith, length-take-le (length text) room fit)))
    ∙ keyed (λ f s. gctr f (inc32 (j0 a.iv)) text) a.key ready.0 ready.1 c.keyed.ensures.0 c.keyed.ensures.1 in (
      ap (λ (n : ℕ). Plain (n + 2)) (c.crypt.ensures.1 ∙ ap (λ (z : Out). length z.enciphered) done ∙ gctr-count (cipher a.key) (inc32 (j0 a.iv)) text)
          ∙ opening-right text room fit a.key a.iv a.a.now a.t right,
      ap (λ (x : List ℕ). x ++ drop (length text) room) (c.crypt.ensures.0 ∙ ap (λ (z : Out). z.bytes) done)
          ∙ room-right text room fit a.key a.iv a.a.now a.t right,
    )
