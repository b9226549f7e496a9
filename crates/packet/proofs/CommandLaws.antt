-- A command's text in two parts: its first 64 bytes, which are four blocks, and the payload.
use mathlib.Core.Path.{◌≡◌, sym, ap, ◌∙◌}
use mathlib.Core.List.{List, ◌++◌}
use Prim.Native.Nat.{ℕ, ◌≤◌}
use native.Mathlib.Omega.{arith}
use lib.ListN.{length, take, drop, take-append-drop}
use lib.Seq.{take_at, drop_at, length-take-le}
use Rattle.gcm.specs.Gctr.{Out, inc32, gctr}
use Rattle.gcm.specs.Gcm.{counter, j0}
use Rattle.gcm.proofs.GctrLaws.{gctr-length, gctr-append}
use Rattle.gcm.proofs.GcmLaws.{first_block}
use Rattle.packet.specs.Sealed.{text_of}

-- a text is its ciphertext's from counter 2 on
pub text-whole : (ciph : List ℕ → List ℕ) (iv c : List ℕ) → length iv ≡ 12 → gctr ciph (counter iv 2) c ≡ text_of ciph iv c
unfolding text_of
text-whole ciph iv c e = ap (λ (b : List ℕ). gctr ciph b c) (first_block iv e)

module _ (ciph : List ℕ → List ℕ) (ciph-16 : (b : List ℕ) → length (ciph b) ≡ 16) (iv c : List ℕ) where
  pub text-length : length (text_of ciph iv c).bytes ≡ length c
  unfolding text_of
  text-length = gctr-length ciph ciph-16 (inc32 (j0 iv)) c

  -- the first 64 bytes are four blocks, so that what comes after them starts at counter 6
  module _ (e : length iv ≡ 12) (h : 64 ≤ length c) where
    abbrev head : List ℕ
    head = (gctr ciph (counter iv 2) (take 64 c)).bytes

    abbrev rest : List ℕ
    rest = (gctr ciph (counter iv 6) (drop 64 c)).bytes

    four-blocks : length (take 64 c) ≡ 64
    four-blocks = length-take-le 64 c h

    parts : (text_of ciph iv c).bytes ≡ head ++ rest
    parts =
        ap (λ (o : Out). o.bytes) (sym (text-whole ciph iv c e))
        ∙ ap (λ (x : List ℕ). (gctr ciph (counter iv 2) x).bytes) (sym (take-append-drop 64 c))
        ∙ gctr-append ciph ciph-16 iv (take 64 c) (drop 64 c) 2 4 e (omega arith) four-blocks

    long-head : length head ≡ 64
    long-head = gctr-length ciph ciph-16 (counter iv 2) (take 64 c) ∙ four-blocks

    pub text_head : take 64 (text_of ciph iv c).bytes ≡ (gctr ciph (counter iv 2) (take 64 c)).bytes
    text_head = ap (take 64) parts ∙ take_at head rest 64 long-head

    pub text-rest : drop 64 (text_of ciph iv c).bytes ≡ (gctr ciph (counter iv 6) (drop 64 c)).bytes
    text-rest = ap (drop 64) parts ∙ drop_at head rest 64 long-head
