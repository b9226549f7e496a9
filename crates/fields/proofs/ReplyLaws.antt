-- A reply's vector: no command's, for it begins with 128 (`vector-high`), and no other number's (`vector-one`).
use mathlib.Core.Path.{◌≡◌, refl, ap}
use mathlib.Core.Logic.{◌≢◌}
use mathlib.Core.List.{List}
use Prim.Native.Nat.{ℕ, ◌/◌, ◌%◌, ◌<◌}
use native.Mathlib.Omega.{arith}
use lib.ListN.{length, get_or}
use Rattle.octets.specs.Little.{octets}
use Rattle.fields.specs.Reply.{reply_vector}

-- as long as every vector
pub vector-long : (n : ℕ) → length (reply_vector n) ≡ 12
unfolding reply_vector octets
vector-long n = refl

-- "Byte 0 of the vector is below 128.": of a command's vector v
pub vector-high : (n : ℕ) (v : List ℕ) → get_or v 0 0 < 128 → reply_vector n ≢ v
unfolding reply_vector octets
vector-high n v low e = omega (arith, low, ap (λ (x : List ℕ). get_or x 0 0) e)

-- two numbers of two bytes
pub vector-one : (n m : ℕ) → n < 65536 → m < 65536 → reply_vector n ≡ reply_vector m → n ≡ m
unfolding reply_vector octets
vector-one n m hn hm e =
    let first : n % 256 ≡ m % 256 = ap (λ (x : List ℕ). get_or x 2 0) e in
    let second : n / 256 % 256 ≡ m / 256 % 256 = ap (λ (x : List ℕ). get_or x 3 0) e in
    omega arith
