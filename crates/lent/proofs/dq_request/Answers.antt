-- `dq_request` meets its contract: what `gateway::request` answers is the step's answer, and the records are stored where it is accepted.
use mathlib.Core.Path.{◌≡◌, ap, ◌∙◌}
use mathlib.Core.List.{List}
use Prim.Native.Nat.{ℕ}
use lib.ListN.{length}
use Rattle.state.specs.declared.State.{State}
use Rattle.gateway.specs.Request.{Requested, requesting}
use Rattle.promises.specs.Step.{request, answer, next, with_records}
use Rattle.lent.proofs.dq_request.Goals as goal

steps : (h : State) (p f o : List ℕ) (y : Requested) → y ≡ requesting h.rights h.records h.names p f (length o)
    → let s = answer h (request p f o) in
    (y.answer.number ≡ s.number) × (with_records h y.records ≡ next h (request p f o)) × (y.host ≡ s.host) × (y.answer.blocks ≡ s.blocks)
unfolding answer next
steps h p f o y e = (
  ap (λ (x : Requested). x.answer.number) e,
  ap (λ (x : Requested). with_records h x.records) e,
  ap (λ (x : Requested). x.host) e,
  ap (λ (x : Requested). x.answer.blocks) e,
)

pub returns-in-Ok : goal.returns-in-Ok
unfolding answer
returns-in-Ok c =
    let s = steps c.args.state.now c.args.request.now c.args.fresh.now c.args.room.now _ c.in-Ok.ensures.0 in
    (s.0, s.1, c.in-Ok.ensures.1, s.2, s.3)

pub returns-in-Err : goal.returns-in-Err
unfolding answer
returns-in-Err c =
    let s = steps c.args.state.now c.args.request.now c.args.fresh.now c.args.room.now _ c.in-Err.ensures.0 in
    (c.refuse.ensures.0 ∙ s.0, s.1, c.in-Err.ensures.1, s.2, c.refuse.ensures.1 ∙ s.3)
