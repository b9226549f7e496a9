-- `capability::bytes::narrow_words` meets its contract: by the place that `position` finds.
use mathlib.Core.Path.{sym, ◌∙◌}
use Prim.Native.Nat.{ℕ}
use borrow.Author.Rules.{rules}
use lib.Dec.{eqb}
use Rattle.std.proofs.lemmas.Iterator.{YieldsList-from_slice}
use Rattle.std.proofs.lemmas.Iterator.Search.{position_from_yields_List}
use Rattle.capability.specs.Chain.{all_ones}
use Rattle.capability.proofs.WordsLaws.{open-place, full-place}
use Rattle.capability.proofs.bytes.narrow_words.Goals as goal

pub returns-in_err-place : goal.returns-in_err-place
returns-in_err-place c =
    let a = c.args in
    let p = position_from_yields_List (λ (x : ℕ). eqb x all_ones) _ _ c.position.result c.position.ensures.ran (YieldsList-from_slice a.words (search rules)) (λ x b q k. search rules) in
    rw c.from_residual.ensures (full-place a.words (sym p ∙ c.in_err-place.was))

pub returns : goal.returns
returns c =
    let a = c.args in
    let p = position_from_yields_List (λ (x : ℕ). eqb x all_ones) _ _ c.position.result c.position.ensures.ran (YieldsList-from_slice a.words (search rules)) (λ x b q k. search rules) in
    open-place a.words a.word c.in_ok-place.place (sym p ∙ c.in_ok-place.was)
