-- What is sealed is opened again, with the same text; what opens was sealed so: sealing its text gives the same bytes and tag.
-- And how long the text is and how many blocks each enciphers: 2 for a wrong tag, 2 and the text's blocks otherwise.
use mathlib.Core.Path.{◌≡◌, refl, sym, ap, ◌∙◌}
use mathlib.Core.Bool.{Bool, true, false}
use mathlib.Core.List.{List, ◌∷◌, ◌++◌}
use Prim.Native.Nat.{ℕ, suc, ◌+◌}
use native.Mathlib.Omega.{arith}
use lib.ListN.{length, length-append}
use Rattle.octets.specs.Same.{same}
use Rattle.octets.proofs.SameLaws.{same_refl, same_true}
use Rattle.ghash.specs.Ghash.{blocks_in}
use Rattle.gcm.specs.Gctr.{Out, inc32, gctr}
use Rattle.gcm.specs.Gcm.{zeros, subkey, j0, tag_of, seal_under, seal, fail, plain, open_if, open_under, open'}
use Rattle.gcm.proofs.GctrLaws.{gctr-length, gctr-twice, gctr-count}
use Rattle.gcm.proofs.GcmLaws.{tag-count}

-- what opening answered says how the comparison went
pub opened-text : (t : Bool) (bs : List (List ℕ)) (o : Out) (p : List ℕ) (cs : List (List ℕ))
    → open_if t bs o ≡ plain p cs → (t ≡ true) × (o.bytes ≡ p) × (bs ++ o.enciphered ≡ cs)
unfolding open_if
opened-text true bs o p cs e = (refl, cc, cc)
opened-text false bs o p cs e = let z : ◌≡◌ {A = ℕ} 0 1 = cc in absurd (omega arith)

opened-fail : (t : Bool) (bs : List (List ℕ)) (o : Out) (cs : List (List ℕ)) → open_if t bs o ≡ fail cs → bs ≡ cs
unfolding open_if
opened-fail true bs o cs e = let z : ◌≡◌ {A = ℕ} 0 1 = cc in absurd (omega arith)
opened-fail false bs o cs e = cc

module _ (ciph : List ℕ → List ℕ) (ciph-16 : (b : List ℕ) → length (ciph b) ≡ 16) (iv a : List ℕ) where
  abbrev tagged : List ℕ → Out
  tagged c = tag_of ciph (subkey ciph) iv a c

  abbrev coded : List ℕ → Out
  coded x = gctr ciph (inc32 (j0 iv)) x

  pub open-seal : (p : List ℕ)
      → open' ciph iv a (seal ciph iv a p).bytes (seal ciph iv a p).tag ≡ plain p (zeros ∷ ((tagged (coded p).bytes).enciphered ++ (coded (coded p).bytes).enciphered))
  unfolding open' open_under open_if seal seal_under
  open-seal p =
      let c : List ℕ = (coded p).bytes in
      ap (λ (b : Bool). open_if b (zeros ∷ (tagged c).enciphered) (coded c)) (same_refl (tagged c).bytes)
      ∙ ap (λ (l : List ℕ). plain l (zeros ∷ ((tagged c).enciphered ++ (coded c).enciphered))) (gctr-twice ciph ciph-16 (inc32 (j0 iv)) p)

  module _ (c t p : List ℕ) (bs : List (List ℕ)) (e : open' ciph iv a c t ≡ plain p bs) where
    facts : (same (tagged c).bytes t ≡ true) × ((coded c).bytes ≡ p) × (zeros ∷ (tagged c).enciphered ++ (coded c).enciphered ≡ bs)
    unfolding open' open_under
    facts = opened-text (same (tagged c).bytes t) (zeros ∷ (tagged c).enciphered) (coded c) p bs e

    back : (coded p).bytes ≡ c
    back = ap (λ (x : List ℕ). (coded x).bytes) (sym facts.1) ∙ gctr-twice ciph ciph-16 (inc32 (j0 iv)) c

    pub seal-open-bytes : (seal ciph iv a p).bytes ≡ c
    unfolding seal seal_under
    seal-open-bytes = back

    pub seal-open-tag : (seal ciph iv a p).tag ≡ t
    unfolding seal seal_under
    seal-open-tag = ap (λ (x : List ℕ). (tagged x).bytes) back ∙ same_true (tagged c).bytes t facts.0

    pub open-length : length p ≡ length c
    open-length = ap length (sym facts.1) ∙ gctr-length ciph ciph-16 (inc32 (j0 iv)) c

    pub open-count : length bs ≡ blocks_in (length c) + 2
    open-count =
        ap length (sym facts.2)
        ∙ omega (
          arith,
          length-append (tagged c).enciphered (coded c).enciphered,
          tag-count ciph (subkey ciph) iv a c,
          gctr-count ciph (inc32 (j0 iv)) c,
        )

  pub fail-count : (c t : List ℕ) (bs : List (List ℕ)) → open' ciph iv a c t ≡ fail bs → length bs ≡ 2
  unfolding open' open_under
  fail-count c t bs e =
      ap length (sym (opened-fail (same (tagged c).bytes t) (zeros ∷ (tagged c).enciphered) (coded c) bs e))
      ∙ ap suc (tag-count ciph (subkey ciph) iv a c)
