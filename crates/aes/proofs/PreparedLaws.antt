-- Under a prepared key a block is enciphered as under the key: its sixteen bytes at 16 i are round key i. A prepared key has
-- 176 bytes. Both hold for every list.
use mathlib.Core.Path.{◌≡◌, refl, ap, ap₂, sym, ◌∙◌}
use mathlib.Core.Logic.{⊎_elim}
use mathlib.Core.List.{List, ◌++◌}
use Prim.Native.Nat.{ℕ, zero, suc, ◌+◌, ◌*◌, ◌<◌, ◌≤◌}
use native.Mathlib.Nat.{eq-or-lt_of_le}
use native.Mathlib.Omega.{arith}
use lib.ListN.{length, get_or, length-append, get_or-append}
use lib.Seq.{get_or-append-add}
use Rattle.aes.specs.KeyExpansion.{next_key, round_key}
use Rattle.aes.specs.Cipher.{add_round_key, round_of, last_round, rounds, cipher_by, cipher}
use Rattle.aes.specs.Prepared.{keys, prepared, key_at, under}
use Rattle.aes.proofs.ListLaws.{firsts_same, sixteen}

length-key : (key : List ℕ) (i : ℕ) → length (round_key key i) ≡ 16
unfolding round_key next_key
length-key key zero = refl
length-key key (suc i) = refl

length-keys : (key : List ℕ) (n : ℕ) → length (keys key n) ≡ 16 * n
unfolding keys
length-keys key zero = refl
length-keys key (suc n) = omega (arith, length-append (keys key n) (round_key key n), length-keys key n, length-key key n)

pub length-prepared : (key : List ℕ) → length (prepared key) ≡ 176
unfolding prepared
length-prepared key = length-keys key 11

-- byte j of round key i
key-byte : (key : List ℕ) (n i j : ℕ) → i < n → j < 16 → get_or (keys key n) (16 * i + j) 0 ≡ get_or (round_key key i) j 0
unfolding keys
key-byte key zero i j h k = omega arith
key-byte key (suc n) i j h k =
    ⊎_elim
    (λ (e : i ≡ n).
    ap (λ (m : ℕ). get_or (keys key n ++ round_key key n) m 0) (omega (arith, length-keys key n))
    ∙ get_or-append-add (keys key n) (round_key key n) j 0
    ∙ ap (λ (m : ℕ). get_or (round_key key m) j 0) (sym e))
    (λ (l : i < n).
    get_or-append (keys key n) (round_key key n) 0 (16 * i + j) (omega (arith, length-keys key n)) ∙ key-byte key n i j l k)
    (eq-or-lt_of_le (omega arith))

key-at : (key : List ℕ) (i : ℕ) → i < 11 → key_at (prepared key) i ≡ round_key key i
unfolding prepared
key-at key i h =
    firsts_same (λ (j : ℕ). get_or (keys key 11) (16 * i + j) 0) (λ (j : ℕ). get_or (round_key key i) j 0) 16 (λ j k. key-byte key 11 i j h k)
    ∙ sixteen (round_key key i) (length-key key i)

-- rounds with the same round keys
rounds-same : (v w : ℕ → List ℕ) (n : ℕ) (s : List ℕ) → ((i : ℕ) → i ≤ n → v i ≡ w i) → rounds v n s ≡ rounds w n s
unfolding rounds
rounds-same v w zero s h = refl
rounds-same v w (suc n) s h = ap₂ round_of (rounds-same v w n s (λ i k. h i (omega arith))) (h (suc n) (omega arith))

pub under-prepared : (key block : List ℕ) → under (prepared key) block ≡ cipher key block
unfolding under cipher cipher_by
under-prepared key block =
    let same : (i : ℕ) → i < 11 → key_at (prepared key) i ≡ round_key key i = key-at key in
    ap₂ last_round
    (rounds-same (key_at (prepared key)) (round_key key) 9 _ (λ i k. same i (omega arith))
    ∙ ap (λ (k : List ℕ). rounds (round_key key) 9 (add_round_key block k)) (same 0 (omega arith)))
    (same 10 (omega arith))

pub under-prepared-all : (key : List ℕ) → under (prepared key) ≡ cipher key
under-prepared-all key = λ t block. under-prepared key block t
