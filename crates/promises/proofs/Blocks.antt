-- Document 01, "Blocks counted": the count of every answer is the one that the table in specs/Counts gives for its number.
use mathlib.Core.Path.{◌≡◌, refl, sym, ap, subst, ◌∙◌}
use mathlib.Core.Logic.{◌≢◌}
use mathlib.Core.Bool.{Bool, true, false, not}
use mathlib.Core.List.{List, [], ◌∷◌}
use Prim.Native.Nat.{ℕ, zero, suc, ◌+◌, ◌-◌}
use native.Mathlib.Omega.{arith}
use lib.Dec.{eqb, ltb}
use lib.ListN.{length, drop, length-append, length-drop, length-map}
use Rattle.octets.specs.Checks.{◌when◌, pick, is_zero, ◌then◌}
use Rattle.octets.specs.Little.{octets}
use Rattle.octets.specs.Room.{part, number_at}
use Rattle.octets.specs.Same.{same}
use Rattle.octets.proofs.CheckLaws.{refusal-ind}
use Rattle.aes.specs.Cipher.{cipher}
use Rattle.ghash.specs.Ghash.{blocks_in}
use Rattle.gcm.specs.Gcm.{seal}
use Rattle.gcm.proofs.GcmLaws.{seal-count}
use Rattle.capability.specs.Enciphered.{Enciphered, under_key, past}
use Rattle.capability.specs.Chain.{right_secret, right_blocks, before}
use Rattle.capability.specs.Bytes.{word_at}
use Rattle.capability.specs.Calls as C
use Rattle.capability.specs.Calls.{issue_refusal, issue_blocks, narrow_refusal, narrow_blocks}
use Rattle.capability.proofs.ChainLaws.{count-right}
use Rattle.state.specs.declared.State.{State}
use Rattle.state.specs.declared.Rights.{Rights}
use Rattle.book.specs.States.{loaded, loaded_with}
use Rattle.view.specs.View.{see}
use Rattle.view.specs.declared.View.{View}
use Rattle.view.specs.declared.Right.{Right}
use Rattle.fields.specs.declared.Order.{Order}
use Rattle.fields.specs.Command.{client_of, order_of, command_lead, open_lead}
use Rattle.fields.specs.Reply.{reply_vector, reply_lead}
use Rattle.packet.specs.Sealed.{right_tag}
use Rattle.command.specs.Command.{ciph_of, outer_rows, outer, order, inner_rows, inner, named, right_rows, rightful, genuine, judged, weighed}
use Rattle.command.specs.Command.{tagged, opening, command_refusal}
use Rattle.command.specs.Blocks.{chained}
use Rattle.command.specs.Heard.{Heard, heard}
use Rattle.command.proofs.HeardLaws.{tag_right, heard-outer, heard-tag, heard-text}
use Rattle.gateway.specs.Request.{requesting}
use Rattle.gateway.specs.Proof.{proving}
use Rattle.gateway.specs.Command.{command_heard}
use Rattle.gateway.specs.Reply.{reply_text, reply_blocks, replying}
use Rattle.gateway.specs.Close.{closing}
use Rattle.gateway.specs.Revoke.{revoking}
use Rattle.client.specs.Seal.{seal_refusal, ask_text, seal_blocks, sealing}
use Rattle.client.specs.declared.seal.Ask.{Ask}
use Rattle.client.specs.OpenReply as O
use Rattle.client.specs.OpenReply.{Opened, reply_outer, reply_inner, opened}
use Rattle.client.proofs.SealLaws.{lent}
use Rattle.client.proofs.OpenLaws.{outer-refuses, tag-refuses, inner-refuses, reply-opens}
use Rattle.promises.proofs.Facts.{zero-opens, order-there}
use Rattle.promises.specs.Counts.{command_count, reply_count, seal_count, open_count, one_count, words_in}
use Rattle.promises.specs.Step.{answer, request, proof, command, reply, close, revoke}

-- ---- the check of a command

module _ (v : View) (r : Rights) (p room : List ℕ) where
  abbrev o : Order
  o = order (ciph_of v) p

  abbrev f : Right
  f = named r o

  abbrev first : ℕ
  first = outer v p (length room)

  -- the table's count for number n
  abbrev is : ℕ → ℕ
  is n = command_count n (length p) o.words

  abbrev Counted : Heard → Type 0
  Counted h = h.blocks ≡ is h.number

  -- 39 and 1 to 7
  outer-count : is first ≡ pick (is_zero first) (is 0) 0
  unfolding outer
  outer-count = refusal-ind (λ (n : ℕ). is n ≡ pick (is_zero n) (is 0) 0) (outer_rows v p (length room)) refl (omega arith)

  -- 9 to 19, and accepted
  text-count : 2 + (blocks_in (length p - 32) + length (chained v r p o)) ≡ is (weighed v r p o)
  unfolding weighed judged inner rightful genuine chained
  text-count =
      let chain : List Enciphered = right_blocks f.secret o.capability o.words in
      let k : ℕ = blocks_in (length p - 32) in
      let all : 2 + (k + length chain) ≡ 2 + k + 1 + before o.words = omega (arith, count-right f.secret o.capability o.words) in
      refusal-ind (λ (n : ℕ). 2 + (k + length (past (n then rightful f o) chain)) ≡ is ((n then rightful f o) then genuine f o))
      (inner_rows v (client_of p) (length p - 96) o)
      (refusal-ind (λ (n : ℕ). 2 + (k + length (past n chain)) ≡ is (n then genuine f o)) (right_rows f o)
      (refusal-ind (λ (n : ℕ). 2 + (k + length chain) ≡ is n)
      (19 when not (same o.secret (right_secret f.secret o.capability o.words)) ∷ []) all (all, tt))
      (omega arith))
      (omega arith)

  pub command-count : Counted (heard v r p room)
  command-count = by-outer first refl where
    by-tag : (t : Bool) → tag_right (ciph_of v) p ≡ t → first ≡ 0 → Counted (heard v r p room)
    by-tag false w z = subst Counted (heard-tag v r p room z w).0 refl
    by-tag true w z = subst Counted (heard-text v r p room z w).0 text-count

    by-outer : (n : ℕ) → first ≡ n → Counted (heard v r p room)
    by-outer zero z = by-tag (tag_right (ciph_of v) p) refl z
    by-outer (suc n) z = subst Counted (heard-outer v r p room (λ e. omega arith)).0 (sym (outer-count ∙ rw z))

-- ---- sealing: the subkey's block, the tag's, and the text's

sealed-count : (key iv a text : List ℕ) (m : ℕ) → length text ≡ m
    → length (under_key key (seal (cipher key) iv a text).enciphered) ≡ 2 + blocks_in m
sealed-count key iv a text m e =
    length-map (seal (cipher key) iv a text).enciphered _ ∙ omega (arith, seal-count (cipher key) iv a text, ap blocks_in e)

-- ---- the server's calls

-- a command that doesn't open: the table doesn't ask for its words
module _ (v : View) (p : List ℕ) (room m : ℕ) (ws us : List ℕ) where
  abbrev Unread : ℕ → Type 0
  Unread n = n ≢ 0 → command_count n m ws ≡ command_count n m us

  unread : Unread (opening v p room)
  unfolding opening outer tagged
  unread =
      refusal-ind (λ (n : ℕ). Unread (n then tagged (ciph_of v) p)) (outer_rows v p room)
      (refusal-ind Unread (8 when not (tag_right (ciph_of v) p) ∷ []) (λ d. absurd (d refl)) (λ d. refl, tt))
      (λ d. refl, (λ d. refl, (λ d. refl, (λ d. refl, (λ d. refl, (λ d. refl, (λ d. refl, (λ d. refl, tt))))))))

module _ (s : State) (p room : List ℕ) where
  abbrev seen : View
  seen = see s.rights s.records (client_of p)

  abbrev read : Order
  read = order (ciph_of seen) p

  by-opening : (n : ℕ) → opening seen p (length room) ≡ n
      → command_count (n then weighed seen s.rights p read) (length p) read.words
      ≡ command_count (n then weighed seen s.rights p read) (length p) (words_in s p)
  unfolding order_of word_at
  by-opening zero e = rw (order-there s p (length room) (zero-opens s p (length room) e))
  by-opening (suc n) e = (rw e at (unread seen p (length room) (length p) read.words (words_in s p))) (λ z. omega arith)

  pub blocks-command : (answer s (command p room)).blocks ≡ command_count (answer s (command p room)).number (length p) (words_in s p)
  unfolding answer command_heard heard command_refusal
  blocks-command = command-count seen s.rights p room ∙ by-opening (opening seen p (length room)) refl

module _ (s : State) where
  pub blocks-proof : (h : ℕ) (p room : List ℕ) → (answer s (proof h p room)).blocks ≡ one_count (answer s (proof h p room)).number
  unfolding answer proving
  blocks-proof h p room = refl

  pub blocks-reply : (h n : ℕ) (payload room : List ℕ)
      → (answer s (reply h n payload room)).blocks ≡ pick (is_zero (answer s (reply h n payload room)).number) (reply_count (length payload)) 0
  unfolding answer replying reply_blocks reply_text reply_lead octets
  blocks-reply h n payload room =
      rw (sealed-count (see s.rights s.records h).held.key (reply_vector n) [] (reply_text n payload) (4 + length payload) (omega arith))

  pub blocks-request : (p fresh room : List ℕ) → (answer s (request p fresh room)).blocks ≡ 0
  unfolding answer requesting
  blocks-request p fresh room = refl

  pub blocks-close : (h : ℕ) → (answer s (close h)).blocks ≡ 0
  unfolding answer closing
  blocks-close h = refl

  pub blocks-revoke : (i e w : ℕ) → (answer s (revoke i e w)).blocks ≡ 0
  unfolding answer revoking
  blocks-revoke i e w = refl

-- ---- the client's calls

pub blocks-issue : (master : List ℕ) (id : ℕ) (room : List ℕ)
    → (C.answer (issue_refusal master id room) (issue_blocks master id)).blocks ≡ one_count (issue_refusal master id room)
unfolding issue_blocks
blocks-issue master id room = refl

pub blocks-narrow : (c : List ℕ) (w : ℕ) (room : List ℕ)
    → (C.answer (narrow_refusal c w room) (narrow_blocks c w)).blocks ≡ one_count (narrow_refusal c w room)
unfolding narrow_blocks
blocks-narrow c w room = refl

module _ (key vector capability : List ℕ) (a : Ask) (payload room : List ℕ) where
  abbrev seal_number : ℕ
  seal_number = seal_refusal key vector capability a.sequence (length payload) (length room)

  -- a text has 64 bytes before its payload where the capability has 50
  pub blocks-seal : (sealing key vector capability a payload room).blocks
      ≡ pick (is_zero (sealing key vector capability a payload room).number) (seal_count (length payload)) 0
  unfolding sealing seal_blocks ask_text command_lead octets
  blocks-seal = by_number seal_number refl where
    by_number : (n : ℕ) → seal_number ≡ n
        → pick (is_zero n) (length (seal_blocks key vector a capability payload)) 0 ≡ pick (is_zero n) (seal_count (length payload)) 0
    by_number zero z =
        let l : length capability ≡ 50 = (lent key vector capability a.sequence (length payload) (length room) z).capability in
        sealed-count key vector (open_lead a.client) (ask_text a capability payload) (64 + length payload)
        (omega (arith, length-append (drop 2 capability) payload, length-drop 2 capability))
    by_number (suc n) z = refl

module _ (key : List ℕ) (n : ℕ) (p room : List ℕ) where
  abbrev before-tag : ℕ
  before-tag = reply_outer key n p (length room)

  abbrev right : Bool
  right = right_tag (cipher key) [] (O.vector_of p) (O.tag_in p) (O.encrypted p)

  abbrev text : List ℕ
  text = (O.reply_text (cipher key) p).bytes

  abbrev after_tag : ℕ
  after_tag = reply_inner n (length p - 32) text

  -- the table's count for number k
  abbrev opens : ℕ → ℕ
  opens k = open_count k (length p)

  abbrev Opens : Opened → Type 0
  Opens a = a.blocks ≡ opens a.number

  -- 28, 1, 2, 5 and 7
  before-count : opens before-tag ≡ pick (is_zero before-tag) (opens 0) 0
  unfolding reply_outer
  before-count =
      refusal-ind (λ (k : ℕ). opens k ≡ pick (is_zero k) (opens 0) 0)
      (28 when not (eqb (length key) 16)
      ∷ 1 when ltb (length p) 32
      ∷ 2 when ltb 16416 (length p)
      ∷ 5 when not (same (part p 0 12) (reply_vector n))
      ∷ 7 when ltb (length room) (length p - 32)
      ∷ []) refl (omega arith)

  -- 11 and 12, and opened
  after-count : opens after_tag ≡ opens 0
  unfolding reply_inner
  after-count =
      refusal-ind (λ (k : ℕ). opens k ≡ opens 0)
      (11 when not (eqb (number_at text 2 2) (length p - 32)) ∷ 12 when not (eqb (number_at text 0 2) n) ∷ []) refl (omega arith)

  pub blocks-open : (opened key n p room).blocks ≡ open_count (opened key n p room).number (length p)
  blocks-open = by-outer before-tag refl where
    by-inner : (k : ℕ) → after_tag ≡ k → before-tag ≡ 0 → right ≡ true → Opens (opened key n p room)
    by-inner zero e z w = subst Opens (reply-opens key n p room z w (blocks_in (length p - 28)) e refl).0 (omega arith)
    by-inner (suc k) e z w =
        subst Opens (inner-refuses key n p room z w (suc k) (blocks_in (length p - 28)) (sym e) (λ q. omega arith) refl).0
        (omega (arith, rw e at after-count))

    by-tag : (t : Bool) → right ≡ t → before-tag ≡ 0 → Opens (opened key n p room)
    by-tag false w z = subst Opens (tag-refuses key n p room z w).0 refl
    by-tag true w z = by-inner after_tag refl z w

    by-outer : (k : ℕ) → before-tag ≡ k → Opens (opened key n p room)
    by-outer zero z = by-tag right refl z
    by-outer (suc k) z = subst Opens (outer-refuses key n p room (suc k) (sym z) (λ q. omega arith)).0 (sym (rw z at before-count))

-- ---- "All else 0.": a load

pub blocks-load : (b : List ℕ) → (loaded b).blocks ≡ 0
unfolding loaded loaded_with
blocks-load b = refl
