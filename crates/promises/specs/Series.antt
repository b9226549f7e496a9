-- A series of server calls other than load (document 01, "Calls about a machine"), and the state after it.
use Rattle.std.specs.Prelude.{List, [], ◌∷◌}
use Rattle.state.specs.declared.State.{State}
use Rattle.promises.specs.Step.{Call, next}

-- the first call first
unfoldable pub after : State → List Call → State
after s [] = s
after s (c ∷ cs) = after (next s c) cs
