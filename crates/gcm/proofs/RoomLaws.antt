-- A counter block, put together of its two parts.
use mathlib.Core.Path.{◌≡◌, sym, ap, ap₂, ◌∙◌}
use mathlib.Core.List.{List, [], ◌∷◌, ◌++◌, append-nil}
use Prim.Native.Nat.{ℕ, ◌/◌, ◌%◌}
use native.Mathlib.Nat.{div-one}
use lib.ListN.{length, drop}
use lib.Seq.{take_at, drop_at}
use borrow.Rule.Slice.PartMut.{put_mid}
use Rattle.std.specs.Int.{w32, to_be_bytes}
use Rattle.ghash.specs.Bytes.{bytes_of}
use Rattle.gcm.specs.Gcm.{counter}

-- x over the first twelve of sixteen zeros, and then y over the last four
pub counter-made : (iv x y : List ℕ) (n : ℕ) → length x ≡ 12 → x ≡ iv → y ≡ to_be_bytes w32 n
    → put_mid 12 4 (x ++ (0 ∷ 0 ∷ 0 ∷ 0 ∷ [])) y ≡ counter iv n
unfolding bytes_of
counter-made iv x y n l ex ey =
    let z : List ℕ = 0 ∷ 0 ∷ 0 ∷ 0 ∷ [] in
    ap₂ (λ (p r : List ℕ). p ++ (y ++ drop 4 r)) (take_at x z 12 l) (drop_at x z 12 l)
    ∙ ap₂ (λ (p q : List ℕ). p ++ q) ex (append-nil y ∙ ey ∙ ap (λ (m : ℕ). n / 16777216 % 256 ∷ n / 65536 % 256 ∷ n / 256 % 256 ∷ m % 256 ∷ []) (sym (div-one n)))
