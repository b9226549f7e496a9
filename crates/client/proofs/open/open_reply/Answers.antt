-- `client::open::open_reply` meets its contract: stage by stage, with the reply's parts as read and the cipher of the lent key.
use mathlib.Core.Path.{◌≡◌, sym, ap, ◌∙◌}
use borrow.Author.Rules.{rules}
use Prim.Native.Nat.{◌+◌}
use Rattle.std.proofs.lemmas.Result.{err_from_is_err_and}
use Rattle.refusal.specs.Numbers.{refusal_number, number_of}
use Rattle.refusal.proofs.NumberLaws.{above-zero}
use Rattle.refusal.proofs.CountedLaws.{counted}
use Rattle.aes.specs.Cipher.{cipher}
use Rattle.aes.specs.Prepared.{prepared}
use Rattle.aes.proofs.CipherLaws.{cipher-length}
use Rattle.client.proofs.OpenLaws.{keyed, inner-read, outer-passed, outer-refuses, tag-refuses, inner-refuses, reply-opens}
use Rattle.client.proofs.open.open_reply.Goals as goal

pub returns-in_err-judge : goal.returns-in_err-judge
returns-in_err-judge c =
    let a = c.args in
    let r = c.in_err-judge.field-0.0 in
    let p = err_from_is_err_and c.from_residual.result c.from_residual.ensures.1 in
    rw (p.1, p.2) (outer-refuses a.key.now a.expected a.reply.now a.room.now (refusal_number r) c.in_err-judge.ensures (above-zero r))

pub returns-then-not-tag_right : goal.returns-then-not-tag_right
returns-then-not-tag_right c =
    let a = c.args in
    let z = sym c.in_ok-judge.ensures in
    let e = keyed a.key.now _ (outer-passed _ _ _ _ z).0 (c.prepare-p.ensures ∙ ap prepared c.bytes_at.ensures) in
    let tag = rw e at c.tag_right.ensures in
    tag-refuses a.key.now a.expected a.reply.now a.room.now z (sym tag ∙ c.if-not-tag_right.true)

pub returns-in_err-map_err : goal.returns-in_err-map_err
returns-in_err-map_err c =
    let a = c.args in
    let z = sym c.in_ok-judge.ensures in
    let k = outer-passed _ _ _ _ z in
    let e = keyed a.key.now _ k.0 (c.prepare-p.ensures ∙ ap prepared c.bytes_at.ensures) in
    let tag = rw e at c.tag_right.ensures in
    let r = c.in_err-map_err.field-0.0 in
    let told = counted c.judge_fields.result c.map_err.result r (c.blocks_in.result + 2) _ (λ w r q. search rules) c.map_err.ensures.cases c.in_err-map_err.was in
    let number = sym told.0 ∙ c.judge_fields.ensures ∙ inner-read (cipher a.key.now) (cipher-length a.key.now) a.expected a.reply.now c.head-text.result k.1 (rw e at c.head-text.ensures) in
    let p = err_from_is_err_and c.from_residual-in_err-map_err.result c.from_residual-in_err-map_err.ensures.1 in
    rw (p.1, p.2, told.1)
    (inner-refuses a.key.now a.expected a.reply.now a.room.now z (sym tag ∙ c.if-not-tag_right.false) _ _ number (above-zero r.why) c.blocks_in.ensures)

pub returns : goal.returns
returns c =
    let a = c.args in
    let z = sym c.in_ok-judge.ensures in
    let k = outer-passed _ _ _ _ z in
    let e = keyed a.key.now _ k.0 (c.prepare-p.ensures ∙ ap prepared c.bytes_at.ensures) in
    let tag = rw e at c.tag_right.ensures in
    let none : number_of c.judge_fields.result ≡ 0 = search rules in
    let number = c.judge_fields.ensures ∙ inner-read (cipher a.key.now) (cipher-length a.key.now) a.expected a.reply.now c.head-text.result k.1 (rw e at c.head-text.ensures) in
    let opens = reply-opens a.key.now a.expected a.reply.now a.room.now z (sym tag ∙ c.if-not-tag_right.false) _ (sym number ∙ none) c.blocks_in.ensures in
    (opens.0, rw e at c.put_payload.ensures ∙ opens.1)
