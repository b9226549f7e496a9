-- The tag is one block; sealing and opening under a subkey encipher a block for each block of text, and one for the tag; the
-- subkey is one more.
use mathlib.Core.Path.{◌≡◌, sym, ap, ◌∙◌}
use mathlib.Core.List.{List, append-nil}
use Prim.Native.Nat.{ℕ, ◌+◌}
use native.Mathlib.Omega.{arith}
use lib.ListN.{length, length-append}
use Rattle.ghash.specs.Ghash.{blocks_in, hash_of}
use Rattle.ghash.proofs.HashLaws.{length-hash}
use Rattle.gcm.specs.Gctr.{Out, inc32, counters, stream, xors, gctr}
use Rattle.gcm.specs.Gcm.{counter, j0, tag_of, subkey, seal_under, seal}
use Rattle.gcm.proofs.GctrLaws.{inc32-counter, gctr-length, gctr-count}

-- the text is enciphered from the second counter block on
pub first_block : (iv : List ℕ) → length iv ≡ 12 → counter iv 2 ≡ inc32 (j0 iv)
first_block iv e = sym (inc32-counter iv 1 e (omega arith))

module _ (ciph : List ℕ → List ℕ) (h iv a c : List ℕ) where
  pub tag-parts : (tag_of ciph h iv a c).bytes ≡ xors (hash_of h a c) (ciph (counter iv 1))
  unfolding tag_of gctr blocks_in counters stream
  tag-parts =
      ap (λ (n : ℕ). xors (hash_of h a c) (stream ciph (counters (j0 iv) (blocks_in n)))) (length-hash h a c)
      ∙ ap (xors (hash_of h a c)) (append-nil (ciph (counter iv 1)))

  pub tag-count : length (tag_of ciph h iv a c).enciphered ≡ 1
  unfolding tag_of blocks_in
  tag-count = gctr-count ciph (j0 iv) (hash_of h a c) ∙ ap blocks_in (length-hash h a c)

module _ (ciph : List ℕ → List ℕ) (h iv a p : List ℕ) where
  pub seal_under-count : length (seal_under ciph h iv a p).enciphered ≡ blocks_in (length p) + 1
  unfolding seal_under
  seal_under-count =
      let c : Out = gctr ciph (inc32 (j0 iv)) p in
      omega (
        arith,
        length-append c.enciphered (tag_of ciph h iv a c.bytes).enciphered,
        gctr-count ciph (inc32 (j0 iv)) p,
        tag-count ciph h iv a c.bytes,
      )

pub seal-count : (ciph : List ℕ → List ℕ) (iv a p : List ℕ) → length (seal ciph iv a p).enciphered ≡ blocks_in (length p) + 2
unfolding seal
seal-count ciph iv a p = omega (arith, seal_under-count ciph (subkey ciph) iv a p)

module _ (ciph : List ℕ → List ℕ) (ciph-16 : (b : List ℕ) → length (ciph b) ≡ 16) where
  pub tag-length : (h iv a c : List ℕ) → length (tag_of ciph h iv a c).bytes ≡ 16
  unfolding tag_of
  tag-length h iv a c = gctr-length ciph ciph-16 (j0 iv) (hash_of h a c) ∙ length-hash h a c

  pub seal-length : (iv a p : List ℕ) → length (seal ciph iv a p).bytes ≡ length p
  unfolding seal seal_under
  seal-length iv a p = gctr-length ciph ciph-16 (inc32 (j0 iv)) p
