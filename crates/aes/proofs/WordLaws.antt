-- The bytes of the words that the code computes: of an exclusive or, of a turn, of each byte times x, and of a mixed column.
-- Each is shown byte by byte: nothing carries from one byte to the next.
use mathlib.Core.Path.{◌≡◌, ap, ap₂, sym, ◌∙◌}
use mathlib.Core.List.{List, [], ◌∷◌}
use Prim.Native.Nat.{ℕ, ◌+◌, ◌*◌, ◌/◌, ◌%◌, ◌<◌, ◌^◌}
use native.Mathlib.Omega.{arith}
use lib.Bits.{bit_and, bit_or, bit_xor, or_shifted_r, xor_shr, xor_mod, and_shr, and_mod, and_mask, and_high, and_le_r, xor_zero_r, xor_assoc, xor_comm}
use lib.ListN.{get_or}
use lib.Pow.{shr-shr, split, low as lowest}
use Rattle.std.specs.Int.{w32, rotate_right, from_le_bytes}
use Rattle.aes.specs.Field.{xtimes, ◌•◌, product}
use Rattle.aes.specs.KeyExpansion.{rot_word}
use Rattle.aes.specs.Cipher.{mixed}
use Rattle.aes.specs.Words.{bytes_of, b0, b1, b2, b3, column_mixed}

-- the exclusive or of two words, each given by its bytes
abbrev pub xor_word : List ℕ → List ℕ → List ℕ
xor_word x y = bit_xor (get_or x 0 0) (get_or y 0 0) ∷ bit_xor (get_or x 1 0) (get_or y 1 0) ∷ bit_xor (get_or x 2 0) (get_or y 2 0) ∷ bit_xor (get_or x 3 0) (get_or y 3 0) ∷ []

-- each byte of a word times x
abbrev pub xtimes_word : List ℕ → List ℕ
xtimes_word w = xtimes (get_or w 0 0) ∷ xtimes (get_or w 1 0) ∷ xtimes (get_or w 2 0) ∷ xtimes (get_or w 3 0) ∷ []

-- the byte at bit k
xor-byte : (x y k : ℕ) → bit_xor x y / 2 ^ k % 2 ^ 8 ≡ bit_xor (x / 2 ^ k % 2 ^ 8) (y / 2 ^ k % 2 ^ 8)
xor-byte x y k = ap (λ (n : ℕ). n % 2 ^ 8) (xor_shr x y k) ∙ xor_mod (x / 2 ^ k) (y / 2 ^ k) 8

and_byte : (x y k : ℕ) → bit_and x y / 2 ^ k % 2 ^ 8 ≡ bit_and (x / 2 ^ k % 2 ^ 8) (y / 2 ^ k % 2 ^ 8)
and_byte x y k = ap (λ (n : ℕ). n % 2 ^ 8) (and_shr x y k) ∙ and_mod (x / 2 ^ k) (y / 2 ^ k) 8

pub xor_bytes : (x y : ℕ) → bytes_of (bit_xor x y) ≡ xor_word (bytes_of x) (bytes_of y)
xor_bytes x y = λ t. xor_mod x y 8 t ∷ xor-byte x y 8 t ∷ xor-byte x y 16 t ∷ xor-byte x y 24 t ∷ []

-- four bytes are the bytes of the word that they make
pub packed : (n a b c d : ℕ) → n ≡ a + b * 256 + c * 65536 + d * 16777216 → a < 256 → b < 256 → c < 256 → d < 256
    → bytes_of n ≡ a ∷ b ∷ c ∷ d ∷ []
packed n a b c d e ha hb hc hd =
    let n1 : n / 256 ≡ (c + d * 256) * 256 + b = omega arith in
    let n2 : n / 65536 ≡ d * 256 + c = omega arith in
    let n3 : n / 16777216 ≡ 0 * 256 + d = omega arith in
    let p : b0 n ≡ a = omega arith in
    let q : b1 n ≡ b = ap (λ (m : ℕ). m % 256) n1 ∙ lowest (c + d * 256) 8 hb in
    let r : b2 n ≡ c = ap (λ (m : ℕ). m % 256) n2 ∙ lowest d 8 hc in
    let s : b3 n ≡ d = ap (λ (m : ℕ). m % 256) n3 ∙ lowest 0 8 hd in
    λ t. p t ∷ q t ∷ r t ∷ s t ∷ []

-- a word is made of its bytes: of all, and of all but the first
stacked : (x y z b c d : ℕ) → y * 256 + b ≡ x → z * 256 + c ≡ y → z ≡ d → x ≡ b + c * 256 + d * 65536
stacked x y z b c d p q r = omega arith

rest_of : (w : ℕ) → w < 4294967296 → w / 256 ≡ b1 w + b2 w * 256 + b3 w * 65536
rest_of w h =
    let second : w / 65536 * 256 + b1 w ≡ w / 256 = rw (← shr-shr w 8 8) (split (w / 256) 8) in
    let third : w / 16777216 * 256 + b2 w ≡ w / 65536 = rw (← shr-shr w 16 8) (split (w / 65536) 8) in
    stacked (w / 256) (w / 65536) (w / 16777216) (b1 w) (b2 w) (b3 w) second third (omega arith)

of-bytes : (w : ℕ) → w < 4294967296 → w ≡ b0 w + b1 w * 256 + b2 w * 65536 + b3 w * 16777216
of-bytes w h = omega (arith, rest_of w h)

-- a word that is read from four bytes
pub read : (n a b c d : ℕ) → n ≡ from_le_bytes w32 (a ∷ b ∷ c ∷ d ∷ []) → a < 256 → b < 256 → c < 256 → d < 256 → bytes_of n ≡ a ∷ b ∷ c ∷ d ∷ []
read n a b c d e ha hb hc hd = packed n a b c d (omega (arith, e)) ha hb hc hd

byte : (n : ℕ) → n % 256 < 256
byte n = omega arith

-- a word turned by one byte and by two: its low bytes go above the others
joined : (x y k a b c d : ℕ) → x < 2 ^ k → y * 2 ^ k + x ≡ a + b * 256 + c * 65536 + d * 16777216 → a < 256 → b < 256 → c < 256 → d < 256
    → bytes_of (bit_or x (y * 2 ^ k)) ≡ a ∷ b ∷ c ∷ d ∷ []
joined x y k a b c d h e ha hb hc hd = ap bytes_of (or_shifted_r y k x h) ∙ packed _ a b c d e ha hb hc hd

pub turned : (n w : ℕ) → w < 4294967296 → n ≡ rotate_right w32 w 8 → bytes_of n ≡ rot_word (bytes_of w)
turned n w h e =
    let low-byte : w * 16777216 % 4294967296 ≡ w % 256 * 16777216 = omega arith in
    ap bytes_of (e ∙ ap (bit_or (w / 256)) low-byte)
    ∙ joined (w / 256) (w % 256) 24 (b1 w) (b2 w) (b3 w) (b0 w) (omega arith) (omega (arith, rest_of w h)) (byte (w / 256)) (byte (w / 65536))
    (byte (w / 16777216)) (byte w)

pub turned-twice : (n w : ℕ) → w < 4294967296 → n ≡ rotate_right w32 w 16 → bytes_of n ≡ rot_word (rot_word (bytes_of w))
turned-twice n w h e =
    let low-bytes : w * 65536 % 4294967296 ≡ w % 65536 * 65536 = omega arith in
    ap bytes_of (e ∙ ap (bit_or (w / 65536)) low-bytes)
    ∙ joined (w / 65536) (w % 65536) 16 (b2 w) (b3 w) (b0 w) (b1 w) (omega arith) (omega (arith, rest_of w h)) (byte (w / 65536))
    (byte (w / 16777216)) (byte w) (byte (w / 256))

-- a word of one byte
pub small : (n : ℕ) → n < 256 → bytes_of n ≡ n ∷ 0 ∷ 0 ∷ 0 ∷ []
small n h = packed n n 0 0 0 (omega arith) h (omega arith) (omega arith) (omega arith)

pub is-small : (n b : ℕ) → n < 4294967296 → bytes_of n ≡ b ∷ 0 ∷ 0 ∷ 0 ∷ [] → (n ≡ b) × (n < 256)
is-small n b h e =
    let p : b0 n ≡ b = ap (λ (l : List ℕ). get_or l 0 0) e in
    let q : b1 n ≡ 0 = ap (λ (l : List ℕ). get_or l 1 0) e in
    let r : b2 n ≡ 0 = ap (λ (l : List ℕ). get_or l 2 0) e in
    let s : b3 n ≡ 0 = ap (λ (l : List ℕ). get_or l 3 0) e in
    (omega (arith, of-bytes n h), omega (arith, of-bytes n h))

-- a byte's low seven bits, and its high bit
low : (b : ℕ) → bit_and b 127 ≡ b % 128
low b = and_mask b 7

high : (b : ℕ) → bit_and (b % 256) 128 ≡ b % 256 / 128 * 128
high b = omega (arith, and_high (b % 256) 1 7)

-- the low seven bits of each byte, doubled, do not carry into the next byte
double : (m p q r s a b c d : ℕ) → m ≡ p + q * 256 + r * 65536 + s * 16777216 → p ≡ a % 128 → q ≡ b % 128 → r ≡ c % 128 → s ≡ d % 128
    → bytes_of (m * 2) ≡ a * 2 % 256 ∷ b * 2 % 256 ∷ c * 2 % 256 ∷ d * 2 % 256 ∷ []
double m p q r s a b c d e hp hq hr hs =
    packed (m * 2) (a * 2 % 256) (b * 2 % 256) (c * 2 % 256) (d * 2 % 256) (omega arith) (omega arith) (omega arith) (omega arith) (omega arith)

doubled : (w : ℕ) → bytes_of (bit_and w 0x7f7f7f7f * 2) ≡ b0 w * 2 % 256 ∷ b1 w * 2 % 256 ∷ b2 w * 2 % 256 ∷ b3 w * 2 % 256 ∷ []
doubled w =
    double _ _ _ _ _ (b0 w) (b1 w) (b2 w) (b3 w)
    (of-bytes (bit_and w 0x7f7f7f7f) (omega (arith, and_le_r w 0x7f7f7f7f)))
    (and_mod w 0x7f7f7f7f 8 ∙ low (b0 w))
    (and_byte w 0x7f7f7f7f 8 ∙ low (b1 w))
    (and_byte w 0x7f7f7f7f 16 ∙ low (b2 w))
    (and_byte w 0x7f7f7f7f 24 ∙ low (b3 w))

-- nor do the high bits, times the polynomial
reduce : (h p q r s a b c d : ℕ) → h ≡ p + q * 256 + r * 65536 + s * 16777216 → p ≡ a * 128 → q ≡ b * 128 → r ≡ c * 128 → s ≡ d * 128
    → a < 2 → b < 2 → c < 2 → d < 2 → bytes_of (h / 128 * 0x1b) ≡ a * 0x1b ∷ b * 0x1b ∷ c * 0x1b ∷ d * 0x1b ∷ []
reduce h p q r s a b c d e hp hq hr hs ha hb hc hd =
    let bits : h / 128 ≡ a + b * 256 + c * 65536 + d * 16777216 = omega arith in
    packed (h / 128 * 0x1b) (a * 0x1b) (b * 0x1b) (c * 0x1b) (d * 0x1b) (omega arith) (omega arith) (omega arith) (omega arith) (omega arith)

reduced : (w : ℕ) → bytes_of (bit_and w 0x80808080 / 128 * 0x1b) ≡ b0 w / 128 * 0x1b ∷ b1 w / 128 * 0x1b ∷ b2 w / 128 * 0x1b ∷ b3 w / 128 * 0x1b ∷ []
reduced w =
    let bit : (n : ℕ) → n % 256 / 128 < 2 = λ n. omega arith in
    reduce _ _ _ _ _ (b0 w / 128) (b1 w / 128) (b2 w / 128) (b3 w / 128)
    (of-bytes (bit_and w 0x80808080) (omega (arith, and_le_r w 0x80808080)))
    (and_mod w 0x80808080 8 ∙ high w)
    (and_byte w 0x80808080 8 ∙ high (w / 256))
    (and_byte w 0x80808080 16 ∙ high (w / 65536))
    (and_byte w 0x80808080 24 ∙ high (w / 16777216))
    (bit w) (bit (w / 256)) (bit (w / 65536)) (bit (w / 16777216))

pub times-x-bytes : (w : ℕ) → bytes_of (bit_xor (bit_and w 0x7f7f7f7f * 2) (bit_and w 0x80808080 / 128 * 0x1b)) ≡ xtimes_word (bytes_of w)
times-x-bytes w =
    xor_bytes (bit_and w 0x7f7f7f7f * 2) (bit_and w 0x80808080 / 128 * 0x1b)
    ∙ ap₂ xor_word (doubled w) (reduced w)

regroup : (p q r s t : ℕ) → bit_xor (bit_xor p q) (bit_xor r (bit_xor s t)) ≡ bit_xor (bit_xor (bit_xor p (bit_xor r s)) q) t
regroup p q r s t =
    ap (bit_xor (bit_xor p q)) (sym (xor_assoc r s t))
    ∙ sym (xor_assoc (bit_xor p q) (bit_xor r s) t)
    ∙ ap (λ (n : ℕ). bit_xor n t) (xor_assoc p q (bit_xor r s) ∙ ap (bit_xor p) (xor_comm q (bit_xor r s)) ∙ sym (xor_assoc p (bit_xor r s) q))

-- the products with {02} and {03}
two : (b : ℕ) → 0x02 • b ≡ xtimes b
unfolding ◌•◌ product
two b = xor_zero_r (xtimes b)

three : (b : ℕ) → 0x03 • b ≡ bit_xor b (xtimes b)
unfolding ◌•◌ product
three b = ap (bit_xor b) (xor_zero_r (xtimes b))

mixed-byte : (a b c d : ℕ) → bit_xor (bit_xor (xtimes a) c) (bit_xor b (bit_xor (xtimes b) d)) ≡ mixed a b c d
unfolding mixed
mixed-byte a b c d =
    regroup (xtimes a) c b (xtimes b) d
    ∙ λ t. bit_xor (bit_xor (bit_xor (sym (two a) t) (sym (three b) t)) c) d

-- a column, mixed: x is each byte of w times x, z is w turned by two bytes, and u the sum of all three turned by one
pub mix-bytes : (w x z u : ℕ) → bytes_of x ≡ xtimes_word (bytes_of w) → bytes_of z ≡ rot_word (rot_word (bytes_of w))
    → bytes_of u ≡ rot_word (bytes_of (bit_xor w (bit_xor x z))) → bytes_of (bit_xor (bit_xor x z) u) ≡ column_mixed (b0 w) (b1 w) (b2 w) (b3 w)
mix-bytes w x z u hx hz hu =
    let W : List ℕ = bytes_of w in
    let hy = xor_bytes x z ∙ ap₂ xor_word hx hz in
    xor_bytes (bit_xor x z) u
    ∙ ap₂ xor_word hy (hu ∙ ap rot_word (xor_bytes w (bit_xor x z) ∙ ap (xor_word W) hy))
    ∙ (λ t. mixed-byte (b0 w) (b1 w) (b2 w) (b3 w) t ∷ mixed-byte (b1 w) (b2 w) (b3 w) (b0 w) t ∷ mixed-byte (b2 w) (b3 w) (b0 w) (b1 w) t ∷ mixed-byte (b3 w) (b0 w) (b1 w) (b2 w) t ∷ [])
