-- `capability::bytes::permits` meets its contract: by what `all` ensures of the words.
use mathlib.Core.Path.{◌∙◌}
use borrow.Author.Rules.{rules}
use Rattle.std.proofs.lemmas.Iterator.{YieldsList-from_slice}
use Rattle.std.proofs.lemmas.Iterator.Search.{all_from_yields_List}
use Rattle.capability.specs.Rights.{allows, permitted}
use Rattle.capability.proofs.RightsLaws.{list_allows}
use Rattle.capability.proofs.bytes.permits.Goals as goal

pub returns-then-allows_command : goal.returns-then-allows_command
unfolding permitted
returns-then-allows_command c =
    let a = c.args in
    rw (← c.allows_command.ensures, c.if-allows_command.true)
    (all_from_yields_List (allows a.c) _ _ c.all.result c.all.ensures.ran (YieldsList-from_slice a.words (search rules)) (λ x b q k. search rules)
    ∙ list_allows a.c a.words)
