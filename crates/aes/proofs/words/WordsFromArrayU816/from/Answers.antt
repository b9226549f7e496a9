-- `Words` of sixteen bytes: each word has the four bytes that it is read from, and sixteen bytes are the whole array.
use borrow.Author.Rules.{rules}
use mathlib.Core.Path.{◌≡◌, ◌∙◌}
use mathlib.Core.List.{◌++◌}
use Prim.Native.Nat.{ℕ, ◌<◌}
use lib.ListN.{length, get_or}
use Rattle.aes.proofs.ListLaws.{sixteen}
use Rattle.aes.proofs.WordLaws.{read}
use Rattle.aes.proofs.words.WordsFromArrayU816.from.Goals as goal

pub returns : goal.returns
returns c =
    let s = c.args.s in
    let long : length s ≡ 16 = search rules in
    let byte : (i : ℕ) → get_or s i 0 < 256 = search rules in
    (λ t.
    read _ _ _ _ _ c.from_le_bytes.ensures (byte 0) (byte 1) (byte 2) (byte 3) t
    ++ read _ _ _ _ _ c.from_le_bytes-2.ensures (byte 4) (byte 5) (byte 6) (byte 7) t
    ++ read _ _ _ _ _ c.from_le_bytes-3.ensures (byte 8) (byte 9) (byte 10) (byte 11) t
    ++ read _ _ _ _ _ c.from_le_bytes-4.ensures (byte 12) (byte 13) (byte 14) (byte 15) t)
    ∙ sixteen s long
