-- What is known of an accepted command: its client is one of the hosts.
use mathlib.Core.Path.{◌≡◌, refl}
use mathlib.Core.List.{List}
use Prim.Native.Nat.{ℕ, ◌≤◌}
use lib.ListN.{length}
use Rattle.octets.proofs.CheckLaws.{passed-of, then-passed}
use Rattle.state.specs.declared.Rights.{Rights}
use Rattle.view.specs.declared.View.{View}
use Rattle.view.proofs.CountedLaws.{such}
use Rattle.fields.specs.Command.{client_of}
use Rattle.command.specs.Command.{outer_rows, outer, command_refusal, opening}
use Rattle.command.specs.Heard.{heard}

outer-client : (v : View) (p : List ℕ) (room : ℕ) → outer v p room ≡ 0 → (1 ≤ client_of p) × (client_of p ≤ v.hosts)
unfolding outer
outer-client v p room e =
    let rows = passed-of (outer_rows v p room) refl e in
    such (client_of p) v.hosts rows.1.1.1.1.0

pub heard-client : (v : View) (r : Rights) (p room : List ℕ) → (heard v r p room).number ≡ 0 → (1 ≤ client_of p) × (client_of p ≤ v.hosts)
unfolding heard command_refusal opening
heard-client v r p room e = outer-client v p (length room) (then-passed _ _ (then-passed _ _ e).0).0
