-- SP 800-38D, section 7, for a 96-bit IV and a 128-bit tag: GCM-AE and GCM-AD. Each lists the blocks that it enciphers, in
-- order: document 01's count of blocks is that list's length.
use Rattle.std.specs.Prelude.{ℕ, Bool, true, false, List, [], ◌∷◌, ◌++◌, replicate}
use Rattle.octets.specs.Same.{same}
use Rattle.ghash.specs.Bytes.{bytes_of}
use Rattle.ghash.specs.Ghash.{hash_of}
use Rattle.gcm.specs.Gctr.{Out, inc32, gctr}

-- 0^128
abbrev pub zeros : List ℕ
zeros = replicate 16 0

-- algorithm 4, step 1: H = CIPH_K (0^128)
abbrev pub subkey : (List ℕ → List ℕ) → List ℕ
subkey ciph = ciph zeros

-- IV ‖ [n]_32
abbrev pub counter : List ℕ → ℕ → List ℕ
counter iv n = iv ++ bytes_of n 4

-- step 2: J_0 = IV ‖ 0^31 ‖ 1
abbrev pub j0 : List ℕ → List ℕ
j0 iv = counter iv 1

-- steps 5 and 6: T = GCTR_K (J_0, S), of the additional data a and the ciphertext c, under the subkey h
unfoldable pub tag_of : (List ℕ → List ℕ) → List ℕ → List ℕ → List ℕ → List ℕ → Out
tag_of ciph h iv a c = gctr ciph (j0 iv) (hash_of h a c)

pub record Sealed : Type 0 where
  pub bytes : List ℕ
  pub tag : List ℕ
  pub enciphered : List (List ℕ)

-- algorithm 4, steps 3 to 7, under the subkey h
unfoldable pub seal_under : (List ℕ → List ℕ) → List ℕ → List ℕ → List ℕ → List ℕ → Sealed
seal_under ciph h iv a p =
    let c : Out = gctr ciph (inc32 (j0 iv)) p in
    let t : Out = tag_of ciph h iv a c.bytes in
    record { bytes = c.bytes; tag = t.bytes; enciphered = c.enciphered ++ t.enciphered }

-- algorithm 4: GCM-AE_K (IV, P, A) = (C, T)
unfoldable pub seal : (List ℕ → List ℕ) → List ℕ → List ℕ → List ℕ → Sealed
seal ciph iv a p =
    let s : Sealed = seal_under ciph (subkey ciph) iv a p in
    record { bytes = s.bytes; tag = s.tag; enciphered = zeros ∷ s.enciphered }

-- FAIL, or P; with the blocks enciphered: where the tag is wrong, none for the text
pub data Opened : Type 0 where
  fail : List (List ℕ) → Opened
  plain : List ℕ → List (List ℕ) → Opened

unfoldable pub open_if : Bool → List (List ℕ) → Out → Opened
open_if true bs p = plain p.bytes (bs ++ p.enciphered)
open_if false bs p = fail bs

-- algorithm 5, steps 4 to 8, under the subkey h, after the blocks bs: the tag is judged first
unfoldable pub open_under : (List ℕ → List ℕ) → List ℕ → List (List ℕ) → List ℕ → List ℕ → List ℕ → List ℕ → Opened
open_under ciph h bs iv a c t =
    let t' : Out = tag_of ciph h iv a c in
    open_if (same t'.bytes t) (bs ++ t'.enciphered) (gctr ciph (inc32 (j0 iv)) c)

-- algorithm 5: GCM-AD_K (IV, C, A, T). It has a prime since the language keeps the word `open`
unfoldable pub open' : (List ℕ → List ℕ) → List ℕ → List ℕ → List ℕ → List ℕ → Opened
open' ciph iv a c t = open_under ciph (subkey ciph) (zeros ∷ []) iv a c t
