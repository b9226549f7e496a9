-- `names::used_before` meets its contract: by what `any` ensures of the rows before row i.
use mathlib.Core.Path.{◌∙◌}
use borrow.Author.Rules.{rules}
use native.Mathlib.Nat.{sub-zero}
use Rattle.std.proofs.lemmas.Iterator.{YieldsList-from_range}
use Rattle.std.proofs.lemmas.Iterator.Search.{any_from_yields_List}
use Rattle.grammar.proofs.TwinLaws.{twin, any-twins}
use Rattle.grammar.proofs.names.used_before.Goals as goal

pub returns : goal.returns
returns c =
    let a = c.args in
    any_from_yields_List (twin a.book.now a.i) _ _ c.any.result c.any.ensures.ran (YieldsList-from_range 0 a.i a.i (search rules) (sub-zero a.i)) (λ x b q k. search rules)
    ∙ any-twins a.book.now a.i a.i
