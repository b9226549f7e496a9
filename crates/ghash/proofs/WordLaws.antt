-- Blocks made of two words. A mask of a bit's 128 copies, made of two words, keeps a block or clears it: so a bit adds v, or nothing.
use mathlib.Core.Path.{◌≡◌, refl, sym, ap, ap₂, ◌∙◌}
use Prim.Native.Nat.{ℕ, zero, suc, ◌+◌, ◌-◌, ◌*◌, ◌%◌, ◌^◌, ◌<◌}
use native.Mathlib.Nat.{mod-eq_of_lt}
use native.Mathlib.Omega.{arith}
use lib.Bits.{bit_xor, bit_and, bit_or, xor_block, xor_zero_r, and_mask, and_zero_r, or_zero_l, or_shifted}
use Rattle.ghash.specs.Field.{by_bit, next_z}

-- the two words of the mask
abbrev pub both : ℕ → ℕ
both half = bit_or (half * 2 ^ 64 % 2 ^ 128) half

pub add_masked : (b z v : ℕ) → b < 2 → v < 2 ^ 128 → bit_xor z (bit_and v (both (b * 0xffff_ffff_ffff_ffff))) ≡ next_z b z v
unfolding next_z by_bit
add_masked zero z v hb hv = ap (bit_xor z) (ap (bit_and v) (or_zero_l 0) ∙ and_zero_r v) ∙ xor_zero_r z
add_masked (suc zero) z v hb hv =
    let e : both 0xffff_ffff_ffff_ffff ≡ 2 ^ 128 - 1 = or_shifted 0xffff_ffff_ffff_ffff 64 0xffff_ffff_ffff_ffff (omega arith) in
    ap (bit_xor z) (ap (bit_and v) e ∙ and_mask v 128 ∙ mod-eq_of_lt hv)
add_masked (suc (suc b)) z v hb hv = absurd (omega arith)

-- a block of two words
pub two-words : (a b : ℕ) → a < 2 ^ 64 → b < 2 ^ 64 → bit_or (a * 2 ^ 64 % 2 ^ 128) b ≡ a * 2 ^ 64 + b
two-words a b ha hb =
    let e : a * 2 ^ 64 % 2 ^ 128 ≡ a * 2 ^ 64 = omega arith in
    rw e (or_shifted a 64 b hb)

-- ---- word by word

-- a mask of a bit's 64 copies keeps a word or clears it
masked : (b n : ℕ) → b < 2 → n < 2 ^ 64 → bit_and n (b * 0xffff_ffff_ffff_ffff) ≡ by_bit b 0 n
unfolding by_bit
masked zero n hb hn = and_zero_r n
masked (suc zero) n hb hn = and_mask n 64 ∙ mod-eq_of_lt hn
masked (suc (suc b)) n hb hn = absurd (omega arith)

pub mask_fits : (b : ℕ) → b < 2 → b * 0xffff_ffff_ffff_ffff < 2 ^ 64
mask_fits zero hb = omega arith
mask_fits (suc zero) hb = omega arith
mask_fits (suc (suc b)) hb = absurd (omega arith)

by-words : (b zh zl vh vl : ℕ) → zl < 2 ^ 64 → vl < 2 ^ 64
    → bit_xor zh (by_bit b 0 vh) * 2 ^ 64 + bit_xor zl (by_bit b 0 vl) ≡ by_bit b (zh * 2 ^ 64 + zl) (bit_xor (zh * 2 ^ 64 + zl) (vh * 2 ^ 64 + vl))
unfolding by_bit
by-words zero zh zl vh vl hz hv = ap₂ (λ (h l : ℕ). h * 2 ^ 64 + l) (xor_zero_r zh) (xor_zero_r zl)
by-words (suc b) zh zl vh vl hz hv = sym (xor_block 64 zh vh zl vl hz hv)

pub add_words : (b zh zl vh vl : ℕ) → b < 2 → zl < 2 ^ 64 → vh < 2 ^ 64 → vl < 2 ^ 64
    → bit_xor zh (bit_and vh (b * 0xffff_ffff_ffff_ffff)) * 2 ^ 64 + bit_xor zl (bit_and vl (b * 0xffff_ffff_ffff_ffff)) ≡ next_z b (zh * 2 ^ 64 + zl) (vh * 2 ^ 64 + vl)
unfolding next_z
add_words b zh zl vh vl hb hz hh hl =
    ap₂ (λ (h l : ℕ). bit_xor zh h * 2 ^ 64 + bit_xor zl l) (masked b vh hb hh) (masked b vl hb hl) ∙ by-words b zh zl vh vl hz hl

by_zero : (b : ℕ) → by_bit b 0 0 ≡ 0
unfolding by_bit
by_zero zero = refl
by_zero (suc b) = refl
