-- `Sealed::entered` meets its contract, by whether a check but the last refuses the text.
use borrow.Author.Rules.{rules}
use mathlib.Core.Path.{◌≡◌, sym, ap, ap₂, ◌∙◌}
use mathlib.Core.List.{List}
use Prim.Native.Nat.{ℕ, ◌+◌, ◌-◌}
use native.Mathlib.Omega.{arith}
use lib.ListN.{length}
use Rattle.std.proofs.lemmas.Result.{err_from_is_err_and}
use Rattle.octets.specs.Checks.{◌then◌}
use Rattle.refusal.specs.Numbers.{number_of}
use Rattle.refusal.proofs.NumberLaws.{above-zero}
use Rattle.refusal.proofs.CountedLaws.{counted}
use Rattle.aes.specs.Prepared.{under}
use Rattle.ghash.specs.Ghash.{blocks_in}
use Rattle.capability.specs.Chain.{right_blocks}
use Rattle.capability.specs.Calls.{written}
use Rattle.state.specs.declared.Rights.{Rights}
use Rattle.view.specs.declared.View.{View}
use Rattle.view.specs.declared.Right.{Right}
use Rattle.fields.specs.declared.Order.{Order}
use Rattle.fields.specs.Command.{client_of, payload_of}
use Rattle.command.specs.Command.{text, order, inner, rightful, named, judged, genuine}
use Rattle.command.specs.Heard.{Heard, no_order, answering}
use Rattle.command.proofs.HeardLaws.{text-refused, text-judged}
use Rattle.command.proofs.Sealed.entered.Goals as goal

-- the number as it was judged by what was read is the text's
number : (v : View) (r : Rights) (s : List ℕ) (o said : Order) (f : Right) (client n : ℕ) → o ≡ said → f ≡ named r o → client ≡ client_of s
    → n ≡ (inner v client (length s - 96) o then rightful f o) → n ≡ judged v r s said
unfolding judged
number v r s o said f client n e ef ec en =
    rw ec at en ∙ ap₂ (λ (f : Right) (o : Order). inner v (client_of s) (length s - 96) o then rightful f o) (ef ∙ ap (named r) e) e

pub overflow_add-blocks : goal.overflow_add-blocks
unfolding blocks_in
overflow_add-blocks c = omega (arith, c.blocks_in.ensures)

pub returns-in_err-map_err : goal.returns-in_err-map_err
returns-in_err-map_err c =
    let a = c.args in
    let s = a.self.now.packet.now in
    let ciph = under a.self.now.p.now in
    let said = order ciph s in
    let p = err_from_is_err_and c.from_residual.result c.from_residual.ensures.1 in
    let d = c.in_err-map_err.field-0.0 in
    let e = counted c.judged.result c.map_err.result d (c.blocks_in.result + 2) _ (λ w r q. search rules) c.map_err.ensures.cases c.in_err-map_err.was in
    let n = sym e.0 ∙ number a.v a.rights s _ said _ _ _ c.order-o.ensures c.right_at-f.ensures c.at-client.ensures c.judged.ensures in
    let case = text-refused a.v a.rights s said (blocks_in (length s - 32)) (payload_of (text ciph s).bytes) a.room.now (λ z. above-zero d.why (n ∙ z)) in
    rw (p.1, p.2) (ap₂ (λ (n k : ℕ). record { number = n; blocks = k; order = no_order }) n (e.1 ∙ ap (λ (k : ℕ). k + 2) c.blocks_in.ensures) ∙ case.0, case.1)

pub finish-requires : goal.finish-requires
unfolding blocks_in
finish-requires c = omega (arith, c.blocks_in.ensures)

pub returns : goal.returns
returns c =
    let a = c.args in
    let s = a.self.now.packet.now in
    let ciph = under a.self.now.p.now in
    let said = order ciph s in
    let payload = payload_of (text ciph s).bytes in
    let heard : ℕ → Right → Order → Heard =
    λ k f o. answering (genuine f o) (k + 2 + length (right_blocks f.secret o.capability o.words)) o in
    let o = c.order-o.ensures in
    let f = c.right_at-f.ensures ∙ ap (named a.rights) o in
    let n = number a.v a.rights s _ said _ _ _ o c.right_at-f.ensures c.at-client.ensures c.judged.ensures in
    let passed : number_of c.judged.result ≡ 0 = search rules in
    let case = text-judged a.v a.rights s said (blocks_in (length s - 32)) payload a.room.now (sym n ∙ passed) in (
      c.finish.ensures.0
          ∙ ap₂ (heard c.blocks_in.result) f o
          ∙ ap (λ (k : ℕ). heard k (named a.rights said) said) c.blocks_in.ensures
          ∙ case.0,
      c.finish.ensures.1 ∙ ap (λ (n : ℕ). written n payload a.room.now) (ap₂ genuine f o) ∙ case.1,
    )
