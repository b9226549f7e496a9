-- `requesting::find` meets its contract: what the search finds from place i on is what it finds from the first place on.
use mathlib.Core.Path.{◌≡◌}
use Prim.Native.Nat.{◌-◌}
use Rattle.gateway.specs.Request.{found_from, found}
use Rattle.gateway.proofs.requesting.find.Given as goal

abbrev pub invariant-loop-i : goal.invariant-loop-i
invariant-loop-i l =
    let r = l.rights in found_from r l.names l.name l.i (r.hosts - l.i) ≡ found r l.names l.name
