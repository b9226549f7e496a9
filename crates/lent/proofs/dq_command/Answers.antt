-- `dq_command` meets its contract: what `gateway::command` answers is the step's answer, and the records are stored where it is accepted.
use mathlib.Core.Path.{◌≡◌, ap, ◌∙◌}
use mathlib.Core.List.{List}
use Prim.Native.Nat.{ℕ}
use Rattle.state.specs.declared.State.{State}
use Rattle.gateway.specs.Command.{Commanded, commanding}
use Rattle.promises.specs.Step.{command, answer, next, with_records}
use Rattle.lent.proofs.OrderLaws.{no-order}
use Rattle.lent.proofs.dq_command.Goals as goal

steps : (h : State) (p o : List ℕ) (y : Commanded) → y ≡ commanding h.rights h.records p o
    → let s = answer h (command p o) in
    (y.heard.number ≡ s.number) × (with_records h y.records ≡ next h (command p o)) × (y.heard.order ≡ s.order) × (y.heard.blocks ≡ s.blocks)
unfolding answer next commanding
steps h p o y e = (
  ap (λ (x : Commanded). x.heard.number) e,
  ap (λ (x : Commanded). with_records h x.records) e,
  ap (λ (x : Commanded). x.heard.order) e,
  ap (λ (x : Commanded). x.heard.blocks) e,
)

pub returns-in-Ok : goal.returns-in-Ok
unfolding answer
returns-in-Ok c =
    let s = steps c.args.state.now c.args.packet.now c.args.room.now _ c.in-Ok.ensures.0 in
    (s.0, s.1, c.in-Ok.ensures.1, s.2, s.3)

pub returns-in-Err : goal.returns-in-Err
unfolding answer
returns-in-Err c =
    let s = steps c.args.state.now c.args.packet.now c.args.room.now _ c.in-Err.ensures.0 in
    (c.refuse.ensures.0 ∙ s.0, s.1, c.in-Err.ensures.1, no-order c.default.result c.default.ensures ∙ s.2, c.refuse.ensures.1 ∙ s.3)
