-- `gcm::gctr::mix` meets its contract. The invariant: the first j bytes are done.
use mathlib.Core.Path.{◌≡◌}
use Rattle.gcm.proofs.XorsLaws.{half}
use Rattle.gcm.proofs.gctr.mix.Given as goal

abbrev pub invariant-loop-j : goal.invariant-loop-j
invariant-loop-j l = l.x ≡ half l.initial.x l.ks l.j
