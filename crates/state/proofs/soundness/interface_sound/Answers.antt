-- `state::interface_sound` meets its contract: the three numbers, and then the words.
use mathlib.Core.Path.{◌≡◌, ◌∙◌}
use Prim.Native.Nat.{ℕ, ◌+◌, ◌*◌, ◌^◌}
use native.Mathlib.Omega.{arith}
use Rattle.std.proofs.lemmas.Grind.{common_steps}
use lib.Dec.{ltb}
use lib.ListN.{get_or}
use borrow.Author.Rules.{rules}
use borrow.Author.Tests.{tests}
use Rattle.std.proofs.lemmas.Iterator.Search.{all_from_yields_List}
use Rattle.state.specs.Sound.{all_below, all_words, interface_sound}
use Rattle.state.proofs.BelowLaws.{counted, all-range}
use Rattle.state.proofs.soundness.interface_sound.Goals as goal

pub returns-then-between-3 : goal.returns-then-between-3
unfolding interface_sound all_words
returns-then-between-3 c =
    let r = c.args.rights.now in
    let i = c.args.i in
    let m = get_or r.commands i 0 in
    let e = get_or r.entries i 0 in
    let test = λ (j : ℕ). ltb (get_or r.words (i * 16 + j) 0) (2 ^ m) in
    let words : c.all.result ≡ all_below test e = all_from_yields_List test _ _ c.all.result c.all.ensures.ran (counted e (rw c.from-entries.ensures)) (λ x b q k. search (rules, tests)) ∙ all-range test e in
    grind (arith, common_steps, words)
