-- `client::seal::head` meets its contract: the two parts are placed one after the other.
use mathlib.Core.Path.{◌≡◌, ap, ap₂, ◌∙◌}
use mathlib.Core.List.{List, ◌++◌}
use Prim.Native.Nat.{ℕ}
use native.Mathlib.Omega.{arith}
use lib.ListN.{length, drop, length-drop}
use Rattle.octets.specs.Room.{placed}
use Rattle.octets.proofs.RoomLaws.{part-rest}
use Rattle.capability.specs.Bytes.{id_of}
use Rattle.fields.specs.Command.{command_lead}
use Rattle.client.proofs.SealLaws.{head-laid}
use borrow.Author.Rules.{rules}
use Rattle.client.proofs.seal.head.Goals as goal

pub returns : goal.returns
unfolding id_of
returns c =
    let a = c.args in
    let rest = drop 2 a.capability.now in
    let lead = c.command_lead-lead.result in
    let e16 : length lead ≡ 16 = search rules in
    let e48 : length rest ≡ 48 = omega (arith, c.requires, length-drop 2 a.capability.now) in
    c.put-2.ensures
    ∙ ap₂ (λ (d x : List ℕ). placed d 16 x) c.put.ensures (part-rest a.capability.now 2)
    ∙ head-laid lead rest e16 e48
    ∙ ap (λ (x : List ℕ). x ++ rest)
    (c.command_lead-lead.ensures
    ∙ ap (λ (id : ℕ). command_lead a.ask.client a.ask.sequence a.ask.group a.ask.interface id a.size a.ask.command) c.at-id.ensures)
