-- What stands between the answers and GCM itself: a prepared key and its subkey do what the key does; a text that was copied
-- to the start of a room is what is worked on; the answer where the room holds the text, and where
-- it doesn't; and that it is settled by what is read out of it.
use mathlib.Core.Path.{◌≡◌, refl, sym, ap, ap₂, ◌∙◌}
use mathlib.Core.Bool.{Bool, true, false, false≢true}
use mathlib.Core.List.{List, ◌∷◌, ◌++◌}
use Prim.Native.Nat.{ℕ, suc, ◌+◌, ◌≤◌, ◌<◌}
use native.Mathlib.Omega.{arith}
use borrow.Author.Tests.{le-leb, lt-leb}
use lib.ListN.{length, take, drop, length-append}
use lib.Seq.{take_at, drop_at}
use Rattle.octets.specs.Room.{placed, fits}
use Rattle.octets.specs.Same.{same}
use Rattle.octets.proofs.RoomLaws.{placed-start}
use Rattle.aes.specs.Cipher.{cipher}
use Rattle.aes.specs.Prepared.{prepared, under}
use Rattle.aes.proofs.PreparedLaws.{under-prepared-all}
use Rattle.aes.proofs.CipherLaws.{cipher-length}
use Rattle.ghash.specs.Ghash.{blocks_in}
use Rattle.gcm.specs.Gctr.{Out, inc32, gctr}
use Rattle.gcm.specs.Gcm.{zeros, subkey, j0, tag_of, Sealed, seal, Opened, open_if, open_under, open'}
use Rattle.gcm.specs.Answers.{Sealing, Short, Fail, Plain, sealing, sealed_in, room_sealed, opening, opened_in, room_opened}
use Rattle.gcm.specs.declared.Sealed as Handed
use Rattle.gcm.specs.declared.Unopened.{Unopened}
use Rattle.gcm.specs.declared.Unopened.TheVariants as Why
use Rattle.std.specs.Prelude.{Option, None, Some, Result, Ok, Err}
use Rattle.gcm.proofs.GctrLaws.{gctr-length, gctr-count}
use Rattle.gcm.proofs.GcmLaws.{tag-count, seal-count, seal-length}

-- whatever is made of the cipher and the subkey
pub keyed {ℓ} : {A : Type ℓ} (F : (List ℕ → List ℕ) → List ℕ → A) (key p h : List ℕ)
    → p ≡ prepared key → h ≡ under p zeros → F (under p) h ≡ F (cipher key) (subkey (cipher key))
keyed F key p h ep eh =
    ap (F (under p)) eh ∙ ap (λ (f : List ℕ → List ℕ). F f (f zeros)) (ap under ep ∙ under-prepared-all key)

module _ (text room : List ℕ) (h : length text ≤ length room) where
  -- what stands at the start of the room once the text was put there, and after it
  pub put-lent : take (length text) (placed room 0 text) ≡ text
  put-lent = ap (take (length text)) (placed-start room text h) ∙ take_at text (drop (length text) room) (length text) refl

  pub put_rest : drop (length text) (placed room 0 text) ≡ drop (length text) room
  put_rest = ap (drop (length text)) (placed-start room text h) ∙ drop_at text (drop (length text) room) (length text) refl

  fits-true : fits text room ≡ true
  fits-true = le-leb (length text) (length room) h

  module _ (key iv a : List ℕ) where
    pub sealing-done : ◌≡◌ {A = Sealing} (record { sealed = true; tag = (seal (cipher key) iv a text).tag; blocks = blocks_in (length text) + 2 }) (sealing (fits text room) (seal (cipher key) iv a text))
    unfolding sealing
    sealing-done =
        sym (ap (λ (t : Bool). sealing t (seal (cipher key) iv a text)) fits-true
        ∙ ap (λ (n : ℕ). record { sealed = true; tag = (seal (cipher key) iv a text).tag; blocks = n }) (seal-count (cipher key) iv a text))

    pub room-sealed : (seal (cipher key) iv a text).bytes ++ drop (length text) room ≡ room_sealed (fits text room) (seal (cipher key) iv a text) room
    unfolding room_sealed
    room-sealed =
        ap (λ (n : ℕ). (seal (cipher key) iv a text).bytes ++ drop n room) (sym (seal-length (cipher key) (cipher-length key) iv a text))
        ∙ ap (λ (t : Bool). room_sealed t (seal (cipher key) iv a text) room) (sym fits-true)

    module _ (t : List ℕ) where
      abbrev T : Out
      T = tag_of (cipher key) (subkey (cipher key)) iv a text

      abbrev P : Out
      P = gctr (cipher key) (inc32 (j0 iv)) text

      opens : (b : Bool) → same T.bytes t ≡ b → open' (cipher key) iv a text t ≡ open_if b (zeros ∷ T.enciphered) P
      unfolding open' open_under
      opens b e = ap (λ (x : Bool). open_if x (zeros ∷ T.enciphered) P) e

      pub opening-wrong : same T.bytes t ≡ false → Fail 2 ≡ opening (fits text room) (open' (cipher key) iv a text t)
      unfolding open_if opening
      opening-wrong e =
          sym (ap₂ opening fits-true (opens false e) ∙ ap (λ (n : ℕ). Fail (suc n)) (tag-count (cipher key) (subkey (cipher key)) iv a text))

      pub room-wrong : same T.bytes t ≡ false → room ≡ room_opened (fits text room) (open' (cipher key) iv a text t) room
      unfolding open_if room_opened
      room-wrong e = sym (ap₂ (λ (b : Bool) (o : Opened). room_opened b o room) fits-true (opens false e))

      plain-count : length ((zeros ∷ T.enciphered) ++ P.enciphered) ≡ blocks_in (length text) + 2
      plain-count =
          omega (
            arith,
            length-append T.enciphered P.enciphered,
            tag-count (cipher key) (subkey (cipher key)) iv a text,
            gctr-count (cipher key) (inc32 (j0 iv)) text,
          )

      pub opening-right : same T.bytes t ≡ true → Plain (blocks_in (length text) + 2) ≡ opening (fits text room) (open' (cipher key) iv a text t)
      unfolding open_if opening
      opening-right e = sym (ap₂ opening fits-true (opens true e) ∙ ap Plain plain-count)

      pub room-right : same T.bytes t ≡ true → P.bytes ++ drop (length text) room ≡ room_opened (fits text room) (open' (cipher key) iv a text t) room
      unfolding open_if room_opened
      room-right e =
          ap (λ (n : ℕ). P.bytes ++ drop n room) (sym (gctr-length (cipher key) (cipher-length key) (inc32 (j0 iv)) text))
          ∙ sym (ap₂ (λ (b : Bool) (o : Opened). room_opened b o room) fits-true (opens true e))

-- a room that is too short
module _ (text room : List ℕ) (h : length room < length text) where
  short : fits text room ≡ false
  short = lt-leb (length text) (length room) h

  pub sealing-short : (s : Sealed) → ◌≡◌ {A = Sealing} (record { sealed = false; tag = zeros; blocks = 0 }) (sealing (fits text room) s)
  unfolding sealing
  sealing-short s = sym (ap (λ (t : Bool). sealing t s) short)

  pub room-unsealed : (s : Sealed) → room ≡ room_sealed (fits text room) s room
  unfolding room_sealed
  room-unsealed s = sym (ap (λ (t : Bool). room_sealed t s room) short)

  pub opening-short : (o : Opened) → Short ≡ opening (fits text room) o
  unfolding opening
  opening-short o = sym (ap (λ (t : Bool). opening t o) short)

  pub room-unopened : (o : Opened) → room ≡ room_opened (fits text room) o room
  unfolding room_opened
  room-unopened o = sym (ap (λ (t : Bool). room_opened t o room) short)

-- what is read out of an answer settles the answer
pub sealed_in-one : (x y : Option Handed.Sealed) → sealed_in x ≡ sealed_in y → x ≡ y
sealed_in-one (Some s) (Some r) e = ap (λ (z : Sealing). Some (record { tag = z.tag; blocks = z.blocks })) e
sealed_in-one (Some s) None e = absurd (false≢true (sym (ap (λ (z : Sealing). z.sealed) e)))
sealed_in-one None (Some r) e = absurd (false≢true (ap (λ (z : Sealing). z.sealed) e))
sealed_in-one None None e = refl

pub opened_in-one : (x y : Result ℕ Unopened) → opened_in x ≡ opened_in y → x ≡ y
opened_in-one (Ok n) (Ok m) e = cc
opened_in-one (Ok n) (Err Why.Short) e = cc
opened_in-one (Ok n) (Err (Why.TagWrong m)) e = cc
opened_in-one (Err Why.Short) (Ok m) e = cc
opened_in-one (Err Why.Short) (Err Why.Short) e = refl
opened_in-one (Err Why.Short) (Err (Why.TagWrong m)) e = cc
opened_in-one (Err (Why.TagWrong n)) (Ok m) e = cc
opened_in-one (Err (Why.TagWrong n)) (Err Why.Short) e = cc
opened_in-one (Err (Why.TagWrong n)) (Err (Why.TagWrong m)) e = cc
