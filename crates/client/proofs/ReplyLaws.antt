-- The text of a reply by way of its first block, which holds the fields and up to twelve bytes of the payload.
use mathlib.Core.Path.{◌≡◌, refl, sym, ap, ap₂, ◌∙◌}
use mathlib.Core.Bool.{Bool, true, false}
use mathlib.Core.List.{List, ◌++◌, append-nil}
use Prim.Native.Nat.{ℕ, ◌+◌, ◌-◌, ◌≤◌, ◌<◌, min}
use native.Mathlib.Omega.{arith}
use borrow.Author.Tests.{leb-true, leb-false}
use lib.Dec.{leb}
use lib.ListN.{length, take, drop, replicate, length-take, length-drop, take-append-drop, drop_of_length-le}
use lib.Seq.{take_all, take-take, drop-drop, take-append-le, take_at, drop_at, length-take-le}
use Rattle.octets.specs.Room.{part, placed, filled}
use Rattle.octets.proofs.RoomLaws.{part-take, part-rest, part_end, length_part, placed-start, length-placed, filled-placed}
use Rattle.octets.proofs.PlacedLaws.{placed-next}
use Rattle.gcm.specs.Gctr.{Out, gctr}
use Rattle.gcm.specs.Gcm.{counter}
use Rattle.gcm.proofs.GctrLaws.{gctr-length, gctr-append}
use Rattle.packet.specs.Sealed.{text_of}
use Rattle.packet.proofs.CommandLaws.{text-whole, text-length}
use Rattle.octets.proofs.PlacedLaws.{placed-part}
use Rattle.client.specs.OpenReply.{reply_inner}

-- what stands at the start of a string stands at the start of its first k bytes
filled-part : (k : ℕ) (t : List ℕ) (at n : ℕ) → at + n ≤ k → at + n ≤ length t → part (filled k t 0) at n ≡ part t at n
unfolding filled
filled-part k t at n h l =
    part-take at n (filled k t 0)
    ∙ ap (drop at)
    (take-append-le (at + n) (take k t) (drop (length (take k t)) (replicate k 0)) (omega (arith, length-take k t)) ∙ take-take (at + n) k t h)
    ∙ sym (part-take at n t)

-- so the fields are read off the first block
pub inner_first : (n m : ℕ) (t : List ℕ) → 4 ≤ length t → reply_inner n m (filled 16 t 0) ≡ reply_inner n m t
unfolding reply_inner
inner_first n m t h = rw (filled-part 16 t 2 2 (omega arith) (omega arith), filled-part 16 t 0 2 (omega arith) (omega arith))

-- what is placed at the start of a room's rest, lent as `&mut d[at..]`, is placed in the room from `at` on
placed-lent : (d : List ℕ) (at : ℕ) (y : List ℕ) → at + length y ≤ length d
    → take at d ++ (placed (part d at (length d - at)) 0 y ++ drop (length d - at) (drop at d)) ≡ placed d at y
placed-lent d at y h =
    let l = length-drop at d in
    rw (part-rest d at, placed-start (drop at d) y (omega arith), drop_of_length-le (drop at d) {i = length d - at} (omega arith), append-nil)
    (placed-part d at (length y) y refl h)

module _ (ciph : List ℕ → List ℕ) (ciph-16 : (b : List ℕ) → length (ciph b) ≡ 16) (iv c : List ℕ) (e : length iv ≡ 12) where
  abbrev T : List ℕ
  T = (text_of ciph iv c).bytes

  abbrev head : List ℕ
  head = (gctr ciph (counter iv 2) (take 16 c)).bytes

  abbrev rest : List ℕ
  rest = (gctr ciph (counter iv 3) (drop 16 c)).bytes

  long-text : length T ≡ length c
  long-text = text-length ciph ciph-16 iv c

  long-head : length head ≡ min 16 (length c)
  long-head = gctr-length ciph ciph-16 (counter iv 2) (take 16 c) ∙ length-take 16 c

  whole : T ≡ (gctr ciph (counter iv 2) c).bytes
  whole = ap (λ (o : Out). o.bytes) (sym (text-whole ciph iv c e))

  -- after a whole block the text goes on from counter 3
  parts : 16 ≤ length c → T ≡ head ++ rest
  parts h =
      whole
      ∙ ap (λ (x : List ℕ). (gctr ciph (counter iv 2) x).bytes) (sym (take-append-drop 16 c))
      ∙ gctr-append ciph ciph-16 iv (take 16 c) (drop 16 c) 2 1 e (omega arith) (length-take-le 16 c h)

  text_head : take 16 T ≡ head
  text_head = either (leb 16 (length c)) refl where
    either : (t : Bool) → leb 16 (length c) ≡ t → take 16 T ≡ head
    either true q =
        let h : 16 ≤ length c = leb-true 16 (length c) q in
        ap (take 16) (parts h) ∙ take_at head rest 16 (omega (arith, long-head))
    either false q =
        let h : length c < 16 = leb-false 16 (length c) q in
        take_all 16 T (omega (arith, long-text))
        ∙ whole
        ∙ ap (λ (x : List ℕ). (gctr ciph (counter iv 2) x).bytes) (sym (take_all 16 c (omega arith)))

  -- the first block, deciphered into sixteen zeros
  pub text-first : placed (replicate 16 0) 0 (gctr ciph (counter iv 2) (take 16 c)).bytes ≡ filled 16 (text_of ciph iv c).bytes 0
  text-first = ap (placed (replicate 16 0) 0) (sym text_head) ∙ filled-placed 16 T 0

  -- the payload, of a text that has its four bytes of fields
  module _ (four : 4 ≤ length c) where
    pub payload-short : (m : ℕ) → m ≡ length c - 4 → m ≤ 12 → part (filled 16 (text_of ciph iv c).bytes 0) 4 m ≡ drop 4 (text_of ciph iv c).bytes
    payload-short m q h =
        filled-part 16 T 4 m (omega arith) (omega (arith, long-text)) ∙ part_end T 4 m (omega (arith, long-text))

    module _ (h : 16 ≤ length c) where
      twelve-there : part (filled 16 T 0) 4 12 ≡ part T 4 12
      twelve-there = filled-part 16 T 4 12 (omega arith) (omega (arith, long-text))

      payload-long : part (filled 16 T 0) 4 12 ++ rest ≡ drop 4 T
      payload-long =
          ap₂ (λ (x y : List ℕ). x ++ y) twelve-there
          (sym (drop-drop 12 4 T ∙ ap (drop 16) (parts h) ∙ drop_at head rest 16 (omega (arith, long-head))))
          ∙ take-append-drop 12 (drop 4 T)

      -- in a room that holds it: the first block's bytes are put at its start, and the others are deciphered after them
      pub payload-placed : (d d₁ d₂ x r : List ℕ) → length c - 4 ≤ length d
          → x ≡ part (filled 16 (text_of ciph iv c).bytes 0) 4 12 → r ≡ (gctr ciph (counter iv 3) (drop 16 c)).bytes
          → d₁ ≡ placed d 0 x → d₂ ≡ placed (part d₁ 12 (length d₁ - 12)) 0 r
          → take 12 d₁ ++ (d₂ ++ drop (length d₁ - 12) (drop 12 d₁)) ≡ placed d 0 (drop 4 (text_of ciph iv c).bytes)
      payload-placed d d₁ d₂ x r fit ex er e₁ e₂ =
          let lx : length x ≡ 12 = ap length (ex ∙ twelve-there) ∙ length_part T 4 12 (omega (arith, long-text)) in
          let lr : length r ≡ length c - 16 = ap length er ∙ gctr-length ciph ciph-16 (counter iv 3) (drop 16 c) ∙ length-drop 16 c in
          let ld : length d₁ ≡ length d = ap length e₁ ∙ length-placed d 0 x in
          ap (λ (l : List ℕ). take 12 d₁ ++ (l ++ drop (length d₁ - 12) (drop 12 d₁))) e₂
          ∙ placed-lent d₁ 12 r (omega arith)
          ∙ ap (λ (l : List ℕ). placed l 12 r) e₁
          ∙ placed-next d 0 x 12 r (omega arith) (omega arith)
          ∙ ap (placed d 0) (ap₂ (λ (y z : List ℕ). y ++ z) ex er ∙ payload-long)
