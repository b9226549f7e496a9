-- `proving::proof` meets its contract: by the number that `judge` gives. With 32 bytes the challenges are whole, and what is placed after the
-- lead stands right behind it.
use mathlib.Core.Path.{◌≡◌, refl, sym, ◌∙◌}
use Prim.Native.Nat.{ℕ}
use native.Mathlib.Omega.{arith}
use lib.ListN.{length}
use Rattle.octets.specs.Little.{octets}
use Rattle.octets.specs.Room.{part}
use Rattle.octets.proofs.RoomLaws.{filled-there, length_part}
use Rattle.octets.proofs.PlacedLaws.{placed-next}
use Rattle.fields.specs.Command.{open_lead}
use Rattle.gateway.specs.Proof.{proving, proof_room}
use Rattle.gateway.proofs.ProofLaws.{proof-passed}
use Rattle.gateway.proofs.proving.proof.Goals as goal

pub overflow_sub-from : goal.overflow_sub-from
overflow_sub-from c = omega (arith, (proof-passed _ _ _ _ (sym c.in_ok-judge.ensures)).host.0)

length-open_lead : (client : ℕ) → length (open_lead client) ≡ 4
unfolding open_lead octets
length-open_lead client = refl

pub returns : goal.returns
unfolding proving proof_room
returns c =
    let a = c.args in
    let p = a.proof.now in
    let known = proof-passed _ _ _ _ (sym c.in_ok-judge.ensures) in
    let far : length (part p 16 16) ≡ 16 = length_part p 16 16 (omega arith) in
    let lead : length (open_lead a.host) ≡ 4 = length-open_lead a.host in
    rw (← c.see-v.ensures, ← c.in_ok-judge.ensures) (
      rw (
        c.with_record-after.ensures,
        c.from.ensures,
        c.proof.ensures,
        c.encrypt-key.ensures,
        c.bytes_at.ensures ∙ filled-there 16 p 0 (omega arith),
        c.bytes_at-2.ensures ∙ filled-there 16 p 16 (omega arith),
      ),
      rw (c.put-2.ensures, c.part.ensures, c.put.ensures, c.open_lead.ensures)
          (placed-next a.room.now 0 (open_lead a.host) 4 (part p 16 16) (omega arith) (omega arith)),
    )
