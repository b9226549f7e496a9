-- `client::seal::seal_command` meets its contract: a refusal alone, or the packet sealed of the bytes as lent.
use mathlib.Core.Path.{sym, ap, ◌∙◌}
use Prim.Native.Nat.{ℕ}
use Rattle.octets.specs.Room.{placed}
use Rattle.client.specs.Seal.{sealing, seal_room}
use Rattle.client.proofs.SealLaws.{lent, command-sealed}
use Rattle.client.proofs.seal.seal_command.Goals as goal

pub returns : goal.returns
unfolding sealing seal_room
returns c =
    let a = c.args in
    let l = lent _ _ _ _ _ _ (sym c.in_ok-judge.ensures) in
    let made = command-sealed a.key.now a.vector.now a.capability.now a.ask a.payload.now a.room.now l
    _ _ _ _ c.bytes_at-key.ensures c.open_lead-open.ensures c.vector_at-vector.ensures c.head-lead.ensures in
    rw (← c.in_ok-judge.ensures) (
      ap (λ (n : ℕ). record { number = 0; blocks = n }) (c.seal.ensures.1 ∙ made.1),
      c.seal.ensures.0 ∙ ap (placed a.room.now 0) made.0,
    )
