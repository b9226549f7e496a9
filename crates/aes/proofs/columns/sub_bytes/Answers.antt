-- `columns::sub_bytes` meets its contract: the word is read from the four bytes that `sbox` gives.
use native.Mathlib.Omega.{arith}
use mathlib.Core.Path.{ap, ◌∙◌}
use mathlib.Core.List.{List, [], ◌∷◌}
use Prim.Native.Nat.{ℕ}
use lib.ListN.{get_or}
use Rattle.aes.specs.Sbox.{sbox}
use Rattle.aes.proofs.WordLaws.{read}
use Rattle.aes.proofs.columns.sub_bytes.Goals as goal

pub returns : goal.returns
returns c =
    let byte = λ (i : ℕ) (l : List ℕ). sbox (get_or l i 0) in
    read _ _ _ _ _ c.from_le_bytes.ensures (omega arith) (omega arith) (omega arith) (omega arith)
    ∙ λ t.
    (c.sbox.ensures ∙ ap (byte 0) c.to_le_bytes.ensures) t
    ∷ (c.sbox-2.ensures ∙ ap (byte 1) c.to_le_bytes-2.ensures) t
    ∷ (c.sbox-3.ensures ∙ ap (byte 2) c.to_le_bytes-3.ensures) t
    ∷ (c.sbox-4.ensures ∙ ap (byte 3) c.to_le_bytes-4.ensures) t
    ∷ []
