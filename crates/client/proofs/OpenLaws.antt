-- Opening a reply: what each stage of the checks answers, under the cipher of the lent key.
use mathlib.Core.Path.{◌≡◌, refl, sym, ap, ◌∙◌}
use mathlib.Core.Logic.{◌≢◌}
use mathlib.Core.Bool.{Bool, true, false, not}
use mathlib.Core.List.{List, [], ◌∷◌}
use Prim.Native.Nat.{ℕ, zero, suc, ◌+◌, ◌-◌, ◌≤◌}
use native.Mathlib.Omega.{arith}
use borrow.Author.Tests.{not-false, eqb-true, ltb-false}
use lib.Dec.{eqb, ltb}
use lib.ListN.{length, drop, length-append, length-drop, length-map}
use Rattle.octets.specs.Checks.{◌when◌}
use Rattle.octets.specs.Room.{part, placed, filled}
use Rattle.octets.specs.Same.{same}
use Rattle.octets.proofs.CheckLaws.{passed-of, then_some}
use Rattle.std.specs.Prelude.{Result, Ok, Err}
use Rattle.refusal.specs.declared.Refused.{Refused}
use Rattle.refusal.proofs.NumberLaws.{above-zero, refused-one}
use Rattle.aes.specs.Cipher.{cipher}
use Rattle.aes.specs.Prepared.{prepared, under}
use Rattle.aes.proofs.PreparedLaws.{under-prepared-all}
use Rattle.ghash.specs.Ghash.{blocks_in}
use Rattle.gcm.specs.Gctr.{inc32}
use Rattle.gcm.specs.Gcm.{zeros, subkey, j0, tag_of}
use Rattle.gcm.proofs.GctrLaws.{gctr-count}
use Rattle.gcm.proofs.GcmLaws.{tag-count}
use Rattle.capability.specs.Enciphered.{Enciphered, under_key, past}
use Rattle.capability.proofs.ChainLaws.{filled_all}
use Rattle.packet.proofs.CommandLaws.{text-length}
use Rattle.client.proofs.ReplyLaws.{inner_first}
use Rattle.fields.specs.Reply.{reply_vector}
use Rattle.packet.specs.Sealed.{right_tag, text_of}
use Rattle.client.specs.declared.open.Payload.{Payload}
use Rattle.client.specs.OpenReply.{Opened, opened_in, vector_of, tag_in, encrypted, reply_outer, reply_tagged, reply_text, reply_inner, open_refusal, open_blocks, opened, open_room}

-- a lent key of sixteen bytes, prepared
pub keyed : (key p : List ℕ) → length key ≡ 16 → p ≡ prepared (filled 16 key 0) → under p ≡ cipher key
keyed key p e q = ap under (q ∙ ap prepared (filled_all 16 key e)) ∙ under-prepared-all key

-- the fields, read off the text's first block
pub inner-read : (ciph : List ℕ → List ℕ) → ((b : List ℕ) → length (ciph b) ≡ 16) → (n : ℕ) (reply t : List ℕ) → 32 ≤ length reply
    → t ≡ filled 16 (reply_text ciph reply).bytes 0
    → reply_inner n (length reply - 32) t ≡ reply_inner n (length reply - 32) (reply_text ciph reply).bytes
unfolding reply_text
inner-read ciph long n reply t h e =
    let T = (text_of ciph (vector_of reply) (encrypted reply)).bytes in
    let four = text-length ciph long (vector_of reply) (encrypted reply) ∙ length-drop 28 reply in
    ap (reply_inner n (length reply - 32)) e ∙ inner_first n (length reply - 32) T (omega arith)

pub opened_in-one : (x y : Result Payload Refused) → opened_in x ≡ opened_in y → x ≡ y
opened_in-one (Ok a) (Ok b) e = ap (λ (o : Opened). Ok (record { blocks = o.blocks; length = o.length })) e
opened_in-one (Ok a) (Err s) e = absurd (above-zero s.why (sym (ap (λ (o : Opened). o.number) e)))
opened_in-one (Err r) (Ok b) e = absurd (above-zero r.why (ap (λ (o : Opened). o.number) e))
opened_in-one (Err r) (Err s) e = ap Err (refused-one r s (ap (λ (o : Opened). o.number) e) (ap (λ (o : Opened). o.blocks) e))

past-some : (a : ℕ) (bs : List Enciphered) → a ≢ 0 → past a bs ≡ []
past-some zero bs h = absurd (h refl)
past-some (suc a) bs h = refl

module _ (key : List ℕ) (n : ℕ) (p room : List ℕ) where
  abbrev ciph : List ℕ → List ℕ
  ciph = cipher key

  abbrev outer : ℕ
  outer = reply_outer key n p (length room)

  abbrev right : Bool
  right = right_tag ciph [] (vector_of p) (tag_in p) (encrypted p)

  abbrev inner : ℕ
  inner = reply_inner n (length p - 32) (reply_text ciph p).bytes

  abbrev tag_blocks : List (List ℕ)
  tag_blocks = zeros ∷ (tag_of ciph (subkey ciph) (vector_of p) [] (encrypted p)).enciphered

  abbrev text_blocks : List (List ℕ)
  text_blocks = (reply_text ciph p).enciphered

  -- the answer with number k, b blocks and m bytes, and d in the room
  abbrev Answers : ℕ → ℕ → ℕ → List ℕ → Type 0
  Answers k b m d = (◌≡◌ {A = Opened} (record { number = k; blocks = b; length = m }) (opened key n p room)) × (d ≡ open_room key n p room)

  refuses : (k b : ℕ) → open_refusal key n p (length room) ≡ k → k ≢ 0 → length (open_blocks key n p (length room)) ≡ b → Answers k b 0 room
  unfolding opened open_room
  refuses zero b e h q = absurd (h refl)
  refuses (suc k) b e h q = rw (e, q) (refl, refl)

  pub outer-refuses : (k : ℕ) → k ≡ outer → k ≢ 0 → Answers k 0 0 room
  unfolding open_refusal open_blocks
  outer-refuses k e h = refuses k 0 (rw (← e) (then_some k _ h)) h (rw (← e, past-some k _ h))

  module _ (z : outer ≡ 0) where
    -- what is known of the lengths
    pub outer-passed : (length key ≡ 16) × (32 ≤ length p) × (length p ≤ 16416) × (length p - 32 ≤ length room)
    unfolding reply_outer
    outer-passed =
        let h = passed-of
        (28 when not (eqb (length key) 16)
        ∷ 1 when ltb (length p) 32
        ∷ 2 when ltb 16416 (length p)
        ∷ 5 when not (same (part p 0 12) (reply_vector n))
        ∷ 7 when ltb (length room) (length p - 32)
        ∷ []) refl z in (
          eqb-true (length key) 16 (not-false (eqb (length key) 16) h.0),
          ltb-false (length p) 32 h.1.0,
          ltb-false 16416 (length p) h.1.1.0,
          ltb-false (length room) (length p - 32) h.1.1.1.1.0,
        )

    counted : (bs : List (List ℕ)) → length (under_key key bs) ≡ length bs
    counted bs = length-map bs _

    -- the subkey's block and the tag's
    two : length tag_blocks ≡ 2
    two = ap suc (tag-count ciph (subkey ciph) (vector_of p) [] (encrypted p))

    pub tag-refuses : right ≡ false → Answers 8 2 0 room
    unfolding open_refusal open_blocks reply_tagged
    tag-refuses w =
        refuses 8 2 (rw (z, w)) (λ q. omega arith)
        (rw (z, w) (length-append (under_key key tag_blocks) [] ∙ omega (arith, counted tag_blocks, two)))

    module _ (w : right ≡ true) where
      passes : open_refusal key n p (length room) ≡ inner
      unfolding open_refusal reply_tagged
      passes = rw (z, w)

      -- and one for each of the text's
      all_blocks : (b : ℕ) → b ≡ blocks_in (length p - 28) → length (open_blocks key n p (length room)) ≡ b + 2
      unfolding open_blocks reply_tagged reply_text text_of
      all_blocks b e =
          rw (z, w)
          (length-append (under_key key tag_blocks) (under_key key text_blocks)
          ∙ omega (arith, counted tag_blocks, counted text_blocks, two, gctr-count ciph (inc32 (j0 (vector_of p))) (encrypted p), ap blocks_in (length-drop 28 p)))

      pub inner-refuses : (k b : ℕ) → k ≡ inner → k ≢ 0 → b ≡ blocks_in (length p - 28) → Answers k (b + 2) 0 room
      inner-refuses k b e h q = refuses k (b + 2) (passes ∙ sym e) h (all_blocks b q)

      pub reply-opens : (b : ℕ) → inner ≡ 0 → b ≡ blocks_in (length p - 28)
          → Answers 0 (b + 2) (length p - 32) (placed room 0 (drop 4 (reply_text (cipher key) p).bytes))
      unfolding opened open_room
      reply-opens b e q = rw (passes, e, all_blocks b q) (refl, refl)

pub ruleset passed = (outer-passed)
