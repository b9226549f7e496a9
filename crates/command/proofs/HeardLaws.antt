-- What a command is answered and what it writes, by how far its checks go: the secret, the text's checks, and the three cases of the whole,
-- refused by the outer checks, refused by the tag, judged by its text.
use mathlib.Core.Path.{◌≡◌, refl, sym, ap, ◌∙◌}
use mathlib.Core.Logic.{◌≢◌}
use mathlib.Core.Bool.{Bool, true, false}
use mathlib.Core.List.{List, [], ◌∷◌, ◌++◌}
use Prim.Native.Nat.{ℕ, zero, suc, ◌+◌, ◌-◌, ◌≤◌}
use native.Mathlib.Omega.{arith}
use borrow.Author.Tests.{ltb-false}
use lib.Dec.{eqb}
use lib.ListN.{length, drop, length-append, length-drop, length-map}
use lib.Seq.{drop-drop}
use Rattle.std.specs.Prelude.{Result, Ok, Err}
use Rattle.octets.specs.Checks.{pick, ◌then◌}
use Rattle.octets.specs.Room.{part}
use Rattle.octets.specs.Same.{same}
use Rattle.octets.proofs.CheckLaws.{passed-of, then_some, then-none}
use Rattle.octets.proofs.RoomLaws.{length-filled}
use Rattle.refusal.specs.declared.Refused.{Refused}
use Rattle.refusal.proofs.NumberLaws.{above-zero, refused-one}
use Rattle.ghash.specs.Ghash.{blocks_in}
use Rattle.gcm.specs.Gctr.{inc32, gctr}
use Rattle.gcm.specs.Gcm.{subkey, counter, j0}
use Rattle.gcm.proofs.GctrLaws.{gctr-count}
use Rattle.gcm.proofs.GcmLaws.{tag-count}
use Rattle.capability.specs.Enciphered.{Enciphered, under_key, past}
use Rattle.capability.specs.Chain.{all_ones, right_secret, right_blocks, before}
use Rattle.capability.specs.Calls.{written}
use Rattle.capability.proofs.ChainLaws.{count-right}
use Rattle.state.specs.declared.Rights.{Rights}
use Rattle.view.specs.declared.View.{View}
use Rattle.view.specs.declared.Right.{Right}
use Rattle.fields.specs.declared.Order.{Order}
use Rattle.fields.specs.Command.{additional, vector_of, tag_in, encrypted, order_of, payload_of}
use Rattle.packet.specs.Sealed.{right_tag, text_of}
use Rattle.fields.proofs.OrderLaws.{order-head}
use Rattle.packet.proofs.CommandLaws.{text_head, text-rest}
use Rattle.command.specs.Command.{ciph_of, outer_rows, outer, tagged, text, order, named, judged, genuine, weighed, opening, command_refusal}
use Rattle.command.specs.Blocks.{tag_blocks, chained, command_blocks}
use Rattle.command.specs.Heard.{Heard, no_order, answering, heard_in, text_heard, text_room, heard, heard_room}
use Rattle.command.specs.declared.Accepted.{Accepted}

-- a refusal carries no order, and leaves the room as it was
refusing : (n b : ℕ) (o : Order) (x room : List ℕ) → n ≢ 0
    → (◌≡◌ {A = Heard} (record { number = n; blocks = b; order = no_order }) (answering n b o)) × (room ≡ written n x room)
refusing zero b o x room h = absurd (h refl)
refusing (suc n) b o x room h = (refl, refl)

-- what a command is answered settles what the call hands back
pub heard_in-one : (x y : Result Accepted Refused) → heard_in x ≡ heard_in y → x ≡ y
heard_in-one (Ok a) (Ok b) e = ap (λ (h : Heard). Ok (record { blocks = h.blocks; order = h.order })) e
heard_in-one (Ok a) (Err s) e = absurd (above-zero s.why (sym (ap (λ (h : Heard). h.number) e)))
heard_in-one (Err r) (Ok b) e = absurd (above-zero r.why (ap (λ (h : Heard). h.number) e))
heard_in-one (Err r) (Err s) e = ap Err (refused-one r s (ap (λ (h : Heard). h.number) e) (ap (λ (h : Heard). h.blocks) e))

past-some : (n : ℕ) (bs : List Enciphered) → n ≢ 0 → past n bs ≡ []
past-some zero bs h = absurd (h refl)
past-some (suc n) bs h = refl

past-none : (n : ℕ) (bs : List Enciphered) → n ≡ 0 → past n bs ≡ bs
past-none zero bs e = refl
past-none (suc n) bs e = absurd (omega arith)

-- ---- the secret

module _ (f : Right) (o : Order) (s : List ℕ) (e : s ≡ right_secret f.secret o.capability o.words) where
  pub secret-wrong : same o.secret s ≡ false → genuine f o ≡ 19
  unfolding genuine
  secret-wrong d = rw (← e, d)

  pub secret-right : same o.secret s ≡ true → genuine f o ≡ 0
  unfolding genuine
  secret-right d = rw (← e, d)

before-few : (ws : List ℕ) → before ws ≤ length ws
unfolding before
before-few [] = omega arith
before-few (w ∷ ws) = either (eqb w all_ones) (before-few ws) where
  either : (t : Bool) → before ws ≤ length ws → pick t 0 (suc (before ws)) ≤ suc (length ws)
  either true h = omega arith
  either false h = omega arith

-- a block for the first secret, and at most one for each word
pub right-few : (master : List ℕ) (id : ℕ) (ws : List ℕ) → length (right_blocks master id ws) ≤ 1 + length ws
right-few master id ws = omega (arith, count-right master id ws, before-few ws)

-- ---- the text

-- what the code deciphers of it: the first 64 bytes say the order, and the rest is the payload
module _ (ciph : List ℕ → List ℕ) (ciph-16 : (b : List ℕ) → length (ciph b) ≡ 16) (p : List ℕ) (h : 96 ≤ length p) where
  long : 64 ≤ length (encrypted p)
  long = omega (arith, length-drop 32 p)

  pub order-read : order_of (gctr ciph (counter (vector_of p) 2) (part p 32 64)).bytes ≡ order ciph p
  unfolding order text
  order-read =
      ap order_of (sym (text_head ciph ciph-16 (vector_of p) (encrypted p) (length-filled 12 p 4) long))
      ∙ order-head (text_of ciph (vector_of p) (encrypted p)).bytes

  pub payload-read : (gctr ciph (counter (vector_of p) 6) (drop 96 p)).bytes ≡ payload_of (text ciph p).bytes
  unfolding text
  payload-read =
      ap (λ (x : List ℕ). (gctr ciph (counter (vector_of p) 6) x).bytes) (sym (drop-drop 64 32 p))
      ∙ sym (text-rest ciph ciph-16 (vector_of p) (encrypted p) (length-filled 12 p 4) long)

-- the text's checks: what is answered, with k blocks of text after the two of the tag, and the room
module _ (v : View) (r : Rights) (p : List ℕ) (o : Order) (k : ℕ) (x room : List ℕ) where
  abbrev n : ℕ
  n = judged v r p o

  abbrev chain : List Enciphered
  chain = right_blocks (named r o).secret o.capability o.words

  pub text-refused : judged v r p o ≢ 0
      → (◌≡◌ {A = Heard} (record { number = judged v r p o; blocks = k + 2; order = no_order }) (answering (weighed v r p o) (2 + (k + length (chained v r p o))) o))
      × (room ≡ written (weighed v r p o) x room)
  unfolding weighed chained
  text-refused h =
      let all : k + 2 ≡ 2 + (k + 0) = omega arith in
      rw (then_some n (genuine (named r o) o) h, past-some n chain h, all) (refusing n (2 + (k + 0)) o x room h)

  pub text-judged : judged v r p o ≡ 0
      → (answering (genuine (named r o) o) (k + 2 + length (right_blocks (named r o).secret o.capability o.words)) o
      ≡ answering (weighed v r p o) (2 + (k + length (chained v r p o))) o)
      × (written (genuine (named r o) o) x room ≡ written (weighed v r p o) x room)
  unfolding weighed chained
  text-judged e =
      let all : k + 2 + length chain ≡ 2 + (k + length chain) = omega arith in
      rw (then-none n (genuine (named r o) o) e, past-none n chain e, all) (refl, refl)

-- ---- the whole

pub outer-lengths : (v : View) (p : List ℕ) (room : ℕ) → outer v p room ≡ 0 → (96 ≤ length p) × (length p ≤ 16480)
unfolding outer
outer-lengths v p room e =
    let rows = passed-of (outer_rows v p room) refl e in
    (ltb-false (length p) 96 rows.1.0, ltb-false 16480 (length p) rows.1.1.0)

abbrev pub tag_right : (List ℕ → List ℕ) → List ℕ → Bool
tag_right ciph p = right_tag ciph (additional p) (vector_of p) (tag_in p) (encrypted p)

under-count : (k : List ℕ) (bs : List (List ℕ)) → length (under_key k bs) ≡ length bs
under-count k bs = length-map bs (λ (b : List ℕ). record { key = k; block = b })

-- the subkey's block, and the tag's
tag-two : (k : List ℕ) (ciph : List ℕ → List ℕ) (p : List ℕ) → length (under_key k (tag_blocks ciph p)) ≡ 2
tag-two k ciph p =
    under-count k (tag_blocks ciph p) ∙ ap suc (tag-count ciph (subkey ciph) (vector_of p) (additional p) (encrypted p))

text-count : (k : List ℕ) (ciph : List ℕ → List ℕ) (p : List ℕ) → length (under_key k (text ciph p).enciphered) ≡ blocks_in (length p - 32)
unfolding text text_of
text-count k ciph p =
    under-count k (text ciph p).enciphered
    ∙ gctr-count ciph (inc32 (j0 (vector_of p))) (encrypted p)
    ∙ ap blocks_in (length-drop 32 p)

module _ (v : View) (r : Rights) (p room : List ℕ) where
  abbrev first : ℕ
  first = outer v p (length room)

  abbrev o : Order
  o = order (ciph_of v) p

  abbrev of_text : List Enciphered
  of_text = under_key v.held.key (text (ciph_of v) p).enciphered ++ chained v r p o

  -- of a case's number and count
  answered : (n b : ℕ) → command_refusal v r p (length room) ≡ n → length (command_blocks v r p (length room)) ≡ b
      → (answering n b o ≡ heard v r p room) × (written n (payload_of (text (ciph_of v) p).bytes) room ≡ heard_room v r p room)
  unfolding heard heard_room
  answered n b e k = rw (e, k) (refl, refl)

  pub heard-outer : outer v p (length room) ≢ 0
      → (◌≡◌ {A = Heard} (record { number = outer v p (length room); blocks = 0; order = no_order }) (heard v r p room)) × (room ≡ heard_room v r p room)
  unfolding command_refusal opening command_blocks
  heard-outer h =
      let number = ap (λ (n : ℕ). n then weighed v r p o) (then_some first (tagged (ciph_of v) p) h) ∙ then_some first (weighed v r p o) h in
      let case = answered first 0 number (ap length (past-some first _ h)) in
      let none = refusing first 0 o (payload_of (text (ciph_of v) p).bytes) room h in
      (none.0 ∙ case.0, none.1 ∙ case.1)

  module _ (e : outer v p (length room) ≡ 0) where
    number-after : (n : ℕ) → tagged (ciph_of v) p ≡ n → command_refusal v r p (length room) ≡ (n then weighed v r p o)
    unfolding command_refusal opening
    number-after n t = ap (λ (m : ℕ). m then weighed v r p o) (then-none first (tagged (ciph_of v) p) e ∙ t)

    count-after : (n : ℕ) → tagged (ciph_of v) p ≡ n → length (command_blocks v r p (length room)) ≡ 2 + length (past n of_text)
    unfolding command_blocks
    count-after n t =
        ap length (past-none first _ e)
        ∙ length-append (under_key v.held.key (tag_blocks (ciph_of v) p)) (past (tagged (ciph_of v) p) of_text)
        ∙ rw (tag-two v.held.key (ciph_of v) p, t)

    pub heard-tag : tag_right (ciph_of v) p ≡ false
        → (◌≡◌ {A = Heard} (record { number = 8; blocks = 2; order = no_order }) (heard v r p room)) × (room ≡ heard_room v r p room)
    unfolding tagged
    heard-tag w =
        let t : tagged (ciph_of v) p ≡ 8 = rw w in
        answered 8 2 (number-after 8 t) (count-after 8 t)

    pub heard-text : tag_right (ciph_of v) p ≡ true
        → (text_heard (ciph_of v) v r p ≡ heard v r p room) × (text_room (ciph_of v) v r p room ≡ heard_room v r p room)
    unfolding tagged
    heard-text w =
        let t : tagged (ciph_of v) p ≡ 0 = rw w in
        let count =
        count-after 0 t
        ∙ ap (λ (m : ℕ). 2 + m) (length-append (under_key v.held.key (text (ciph_of v) p).enciphered) (chained v r p o))
        ∙ ap (λ (m : ℕ). 2 + (m + length (chained v r p o))) (text-count v.held.key (ciph_of v) p) in
        answered (weighed v r p o) (2 + (blocks_in (length p - 32) + length (chained v r p o))) (number-after 0 t) count
