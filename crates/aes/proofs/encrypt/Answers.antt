-- `encrypt` meets its contract: under the prepared key a block is enciphered as under the key.
use mathlib.Core.Path.{ap, ◌∙◌}
use mathlib.Core.List.{List}
use Prim.Native.Nat.{ℕ}
use Rattle.aes.specs.Prepared.{under}
use Rattle.aes.proofs.PreparedLaws.{under-prepared}
use Rattle.aes.proofs.encrypt.Goals as goal

pub returns : goal.returns
returns c =
    let a = c.args in
    c.encrypt_prepared.ensures
    ∙ ap (λ (p : List ℕ). under p a.block) c.prepare.ensures
    ∙ under-prepared a.key a.block
