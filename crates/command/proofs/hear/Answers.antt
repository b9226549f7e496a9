-- `command::hear` meets its contract: by the three cases of what is heard. Under the prepared key a block is enciphered as under the key.
use mathlib.Core.Path.{◌≡◌, sym, ap, ◌∙◌}
use mathlib.Core.List.{List}
use Prim.Native.Nat.{ℕ}
use lib.ListN.{length}
use Rattle.std.proofs.lemmas.Result.{err_from_is_err_and}
use Rattle.refusal.proofs.NumberLaws.{above-zero}
use Rattle.aes.specs.Prepared.{under, prepared}
use Rattle.aes.proofs.PreparedLaws.{under-prepared-all}
use Rattle.view.specs.declared.View.{View}
use Rattle.command.specs.Command.{ciph_of}
use Rattle.command.specs.Heard.{no_order, text_heard, text_room}
use Rattle.command.proofs.HeardLaws.{tag_right, outer-lengths, heard-outer, heard-tag, heard-text}
use Rattle.command.proofs.hear.Goals as goal

pub returns-in_err-outer : goal.returns-in_err-outer
returns-in_err-outer c =
    let a = c.args in
    let r = c.in_err-outer.field-0.0 in
    let p = err_from_is_err_and c.from_residual.result c.from_residual.ensures.1 in
    let case = heard-outer a.v a.rights a.packet.now a.room.now (λ e. above-zero r (c.in_err-outer.ensures ∙ e)) in
    rw (p.1, p.2) (ap (λ (n : ℕ). record { number = n; blocks = 0; order = no_order }) c.in_err-outer.ensures ∙ case.0, case.1)

-- ---- past the outer checks

keyed : (v : View) (p : List ℕ) → p ≡ prepared v.held.key → under p ≡ ciph_of v
keyed v p e = ap under e ∙ under-prepared-all v.held.key

pub returns-then-not-tag_right : goal.returns-then-not-tag_right
returns-then-not-tag_right c =
    let a = c.args in
    let k = keyed a.v _ c.prepare-p.ensures in
    let tag = c.tag_right.ensures ∙ ap (λ (f : List ℕ → List ℕ). tag_right f a.packet.now) k in
    let case = heard-tag a.v a.rights a.packet.now a.room.now (sym c.in_ok-outer.ensures) (sym tag ∙ c.if-not-tag_right.true) in
    (case.0, case.1)

pub invariant_of-sealed : goal.invariant_of-sealed
invariant_of-sealed c =
    let a = c.args in
    let lengths = outer-lengths a.v a.packet.now (length a.room.now) (sym c.in_ok-outer.ensures) in
    record { long = lengths.0; bounded = lengths.1 }

pub returns : goal.returns
returns c =
    let a = c.args in
    let s = a.packet.now in
    let k = keyed a.v _ c.prepare-p.ensures in
    let tag = c.tag_right.ensures ∙ ap (λ (f : List ℕ → List ℕ). tag_right f s) k in
    let case = heard-text a.v a.rights s a.room.now (sym c.in_ok-outer.ensures) (sym tag ∙ c.if-not-tag_right.false) in (
      c.entered.ensures.0 ∙ ap (λ (f : List ℕ → List ℕ). text_heard f a.v a.rights s) k ∙ case.0,
      c.entered.ensures.1 ∙ ap (λ (f : List ℕ → List ℕ). text_room f a.v a.rights s a.room.now) k ∙ case.1,
    )
