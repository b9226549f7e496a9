-- A capability's bytes read back as its ID, its words and its secret, and the code's three stores write them.
use mathlib.Core.Path.{◌≡◌, refl, sym, ap, ◌∙◌}
use mathlib.Core.List.{List, [], ◌∷◌, ◌++◌, append_assoc, append-nil}
use Prim.Native.Nat.{ℕ, zero, suc, ◌+◌, ◌*◌, ◌^◌, ◌≤◌, ◌<◌}
use native.Mathlib.Numerals.{add-one}
use native.Mathlib.Omega.{arith}
use lib.ListN.{length, get_or, take, drop, length-append}
use lib.Seq.{take_all, take_at, drop_at, drop-drop, length-take-le, take-suc}
use Rattle.std.proofs.Common.{take-append-drop}
use Rattle.octets.specs.Little.{number, octets}
use Rattle.octets.specs.Room.{part, placed}
use Rattle.octets.proofs.RoomLaws.{placed-ind, length-placed}
use Rattle.octets.proofs.LittleLaws.{length-octets, number-octets}
use Rattle.capability.specs.Bytes.{id_of, word_at, four_at, secret_of, word_bytes, capability}
use Rattle.capability.proofs.WordsLaws.{four-written}
use Rattle.octets.proofs.PlacedLaws.{placed-next}

pub length-words : (ws : List ℕ) → length (word_bytes ws) ≡ 8 * length ws
unfolding word_bytes
length-words [] = refl
length-words (w ∷ ws) = omega (arith, length-append (octets 8 w) (word_bytes ws), length-octets 8 w, length-words ws)

-- what stands after p, read from the place where p ends
drop_past : (p q : List ℕ) (n m : ℕ) → length p ≡ n → drop (n + m) (p ++ q) ≡ drop m q
drop_past p q n m e = sym (drop-drop m n (p ++ q)) ∙ ap (drop m) (drop_at p q n e)

-- word k of words as bytes, whatever follows them
word_back : (k : ℕ) (ws r : List ℕ) → k < length ws → get_or ws k 0 < 2 ^ 64 → number (part (word_bytes ws ++ r) (8 * k) 8) ≡ get_or ws k 0
unfolding word_bytes
word_back k [] r l h = absurd (omega arith)
word_back zero (w ∷ ws) r l h =
    ap number (rw (append_assoc (octets 8 w) (word_bytes ws) r) (take_at (octets 8 w) (word_bytes ws ++ r) 8 (length-octets 8 w)))
    ∙ number-octets 8 w h
word_back (suc k) (w ∷ ws) r l h =
    let e : 8 * suc k ≡ 8 + 8 * k = omega arith in
    rw (e, append_assoc (octets 8 w) (word_bytes ws) r, drop_past (octets 8 w) (word_bytes ws ++ r) 8 (8 * k) (length-octets 8 w))
    (word_back k ws r (omega arith) h)

module _ (id : ℕ) (ws s : List ℕ) where
  pub id-back : id < 65536 → id_of (capability id ws s) ≡ id
  unfolding id_of capability
  id-back h =
      ap number (rw (append_assoc (octets 2 id) (word_bytes ws) s) (take_at (octets 2 id) (word_bytes ws ++ s) 2 (length-octets 2 id)))
      ∙ number-octets 2 id h

  pub word-at : (k : ℕ) → k < length ws → get_or ws k 0 < 2 ^ 64 → word_at (capability id ws s) 2 k ≡ get_or ws k 0
  unfolding word_at capability
  word-at k l h =
      rw (append_assoc (octets 2 id) (word_bytes ws) s, drop_past (octets 2 id) (word_bytes ws ++ s) 2 (8 * k) (length-octets 2 id))
      (word_back k ws s l h)

  head-length : length ws ≡ 4 → length (octets 2 id ++ word_bytes ws) ≡ 34
  head-length e = omega (arith, length-append (octets 2 id) (word_bytes ws), length-octets 2 id, length-words ws)

  pub secret-back : length ws ≡ 4 → length s ≡ 16 → secret_of (capability id ws s) ≡ s
  unfolding secret_of capability
  secret-back e h = ap (take 16) (drop_at (octets 2 id ++ word_bytes ws) s 34 (head-length e)) ∙ take_all 16 s (omega arith)

  pub length-capability : length ws ≡ 4 → length s ≡ 16 → length (capability id ws s) ≡ 50
  unfolding capability
  length-capability e h = omega (arith, length-append (octets 2 id ++ word_bytes ws) s, head-length e)

  -- ID, words and secret, placed one after the other
  pub capability_placed : (d : List ℕ) → length ws ≡ 4 → length s ≡ 16 → 50 ≤ length d
      → placed (placed (placed d 0 (octets 2 id)) 2 (word_bytes ws)) 34 s ≡ placed d 0 (capability id ws s)
  unfolding capability
  capability_placed d e h l =
      rw (placed-next d 0 (octets 2 id) 2 (word_bytes ws) (omega (arith, length-octets 2 id)) (omega (arith, length-words ws)))
      (placed-next d 0 (octets 2 id ++ word_bytes ws) 34 s (omega (arith, head-length e)) (omega arith))

pub four-back : (id a b c d : ℕ) (s : List ℕ) → a < 2 ^ 64 → b < 2 ^ 64 → c < 2 ^ 64 → d < 2 ^ 64
    → four_at (capability id (a ∷ b ∷ c ∷ d ∷ []) s) 2 ≡ a ∷ b ∷ c ∷ d ∷ []
four-back id a b c d s ha hb hc hd =
    let ws : List ℕ = a ∷ b ∷ c ∷ d ∷ [] in
    rw (word-at id ws s 0 (omega arith) ha, word-at id ws s 1 (omega arith) hb, word-at id ws s 2 (omega arith) hc, word-at id ws s 3 (omega arith) hd)

words-more : (xs : List ℕ) (w : ℕ) → word_bytes (xs ++ (w ∷ [])) ≡ word_bytes xs ++ octets 8 w
unfolding word_bytes
words-more [] w = append-nil (octets 8 w)
words-more (x ∷ xs) w = rw (words-more xs w) (sym (append_assoc (octets 8 x) (word_bytes xs) (octets 8 w)))

pub none_placed : (d : List ℕ) → placed d 2 [] ≡ d
none_placed d = placed-ind d 2 [] (λ l. l ≡ d) (λ h. ap (λ (l : List ℕ). l ++ drop 2 d) (append-nil (take 2 d)) ∙ take-append-drop 2 d) (λ h. refl)

-- the next word, placed after those that stand in the room
pub word_placed : (d ws : List ℕ) (i : ℕ) → i < length ws → 2 + 8 * length ws ≤ length d
    → placed (placed d 2 (word_bytes (take i ws))) (2 + 8 * i) (octets 8 (get_or ws i 0)) ≡ placed d 2 (word_bytes (take (i + 1) ws))
word_placed d ws i h fit =
    rw add-one
    (let e : length (word_bytes (take i ws)) ≡ 8 * i = length-words (take i ws) ∙ ap (λ (n : ℕ). 8 * n) (length-take-le i ws (omega arith)) in
    placed-next d 2 (word_bytes (take i ws)) (2 + 8 * i) (octets 8 (get_or ws i 0)) (omega arith) (omega (arith, length-octets 8 (get_or ws i 0)))
    ∙ ap (placed d 2) (sym (words-more (take i ws) (get_or ws i 0)) ∙ ap word_bytes (sym (take-suc ws i 0 h))))

-- a word placed before words that follow it
word-before : (d : List ℕ) (at n w : ℕ) (ws : List ℕ) → at + 8 ≡ n → n + 8 * length ws ≤ length d
    → placed (placed d at (octets 8 w)) n (word_bytes ws) ≡ placed d at (word_bytes (w ∷ ws))
unfolding word_bytes
word-before d at n w ws e h =
    placed-next d at (octets 8 w) n (word_bytes ws) (omega (arith, length-octets 8 w)) (omega (arith, length-words ws))

-- four words, placed one after the other
pub words_placed : (ws d : List ℕ) → length ws ≡ 4 → 34 ≤ length d
    → placed (placed (placed (placed d 2 (octets 8 (get_or ws 0 0))) 10 (octets 8 (get_or ws 1 0))) 18 (octets 8 (get_or ws 2 0))) 26 (octets 8 (get_or ws 3 0))
    ≡ placed d 2 (word_bytes ws)
unfolding word_bytes
words_placed ws d e h =
    let a = get_or ws 0 0 in
    let b = get_or ws 1 0 in
    let c = get_or ws 2 0 in
    let f = get_or ws 3 0 in
    let d1 : List ℕ = placed d 2 (octets 8 a) in
    let d2 : List ℕ = placed d1 10 (octets 8 b) in
    let l1 : length d1 ≡ length d = length-placed d 2 (octets 8 a) in
    let l2 : length d2 ≡ length d1 = length-placed d1 10 (octets 8 b) in
    ap (placed (placed d2 18 (octets 8 c)) 26) (sym (append-nil (octets 8 f)))
    ∙ word-before d2 18 26 c (f ∷ []) refl (omega arith)
    ∙ word-before d1 10 18 b (c ∷ f ∷ []) refl (omega arith)
    ∙ word-before d 2 10 a (b ∷ c ∷ f ∷ []) refl (omega arith)
    ∙ ap (λ (l : List ℕ). placed d 2 (word_bytes l)) (sym (four-written ws e))
