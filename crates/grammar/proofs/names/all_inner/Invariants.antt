-- `names::all_inner` meets its contract. The invariant: all so far may stand inside and so may the rest, just where all may.
use mathlib.Core.Path.{◌≡◌}
use mathlib.Core.Bool.{◌&&◌}
use lib.ListN.{drop}
use Rattle.grammar.specs.Names.{all_inner}
use Rattle.grammar.proofs.names.all_inner.Given as goal

abbrev pub invariant-loop-c : goal.invariant-loop-c
invariant-loop-c l = l.all && all_inner (drop l.c-index l.name) ≡ all_inner l.name
