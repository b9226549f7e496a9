-- GCTR: the counters are IV ‖ [n]_32, IV ‖ [n + 1]_32, ..; its output is as long as its input; twice it changes nothing; and
-- what one more block does to a text of which the first i blocks are done.
use mathlib.Core.Path.{◌≡◌, refl, sym, ap, ap₂, ◌∙◌}
use mathlib.Core.List.{List, [], ◌∷◌, ◌++◌, append_assoc, append-nil}
use Prim.Native.Nat.{ℕ, zero, suc, ◌+◌, ◌-◌, ◌*◌, ◌%◌, ◌^◌, ◌≤◌, ◌<◌, min}
use native.Mathlib.Nat.{zero-add, suc-add, min-zero, suc-min-suc}
use native.Mathlib.Numerals.{add-one}
use native.Mathlib.Omega.{arith}
use lib.ListN.{length, take, drop, length-append, length-drop, drop_of_length-le}
use lib.Seq.{take_at, drop_at, drop-append-add, drop-drop, drop-nil}
use Rattle.octets.specs.Room.{over}
use borrow.Rule.Slice.PartMut.{put_mid}
use Rattle.ghash.specs.Bytes.{num_at, bytes_of}
use Rattle.ghash.specs.Ghash.{blocks_in}
use Rattle.ghash.proofs.HashLaws.{num-bytes}
use Rattle.gcm.specs.Gctr.{inc32, counters, stream, xors, gctr}
use Rattle.gcm.specs.Gcm.{counter}
use Rattle.gcm.proofs.XorsLaws.{length-xors, xors-append, xors-take, xors-parts, xors-nil, xors-twice}

-- ---- the counters

-- the last four bytes of IV ‖ [n]_32 write n
counter-num : (iv : List ℕ) (n : ℕ) → length iv ≡ 12 → n < 2 ^ 32 → num_at (counter iv n) 12 4 ≡ n
counter-num iv n e h = ap (λ (k : ℕ). num_at (counter iv n) k 4) (sym e) ∙ num-bytes iv n 4 h

pub inc32-counter : (iv : List ℕ) (n : ℕ) → length iv ≡ 12 → n < 2 ^ 32 → inc32 (counter iv n) ≡ counter iv ((n + 1) % 2 ^ 32)
unfolding inc32
inc32-counter iv n e h =
    ap₂ (λ (l : List ℕ) (k : ℕ). l ++ bytes_of ((k + 1) % 2 ^ 32) 4) (take_at iv (bytes_of n 4) 12 e) (counter-num iv n e h)

pub length-counters : (cb : List ℕ) (n : ℕ) → length (counters cb n) ≡ n
unfolding counters
length-counters cb zero = refl
length-counters cb (suc n) = ap suc (length-counters (inc32 cb) n)

-- the counters in two parts
pub counters-append : (iv : List ℕ) (e : length iv ≡ 12) (k m n : ℕ) → n < 2 ^ 32
    → counters (counter iv n) (k + m) ≡ counters (counter iv n) k ++ counters (counter iv ((n + k) % 2 ^ 32)) m
unfolding counters
counters-append iv e zero m n h =
    let q : n ≡ (n + 0) % 2 ^ 32 = omega arith in
    ap₂ (λ (c j : ℕ). counters (counter iv c) j) q (zero-add m)
counters-append iv e (suc k) m n h =
    let c : ℕ = (n + 1) % 2 ^ 32 in
    let q : (c + k) % 2 ^ 32 ≡ (n + suc k) % 2 ^ 32 = omega arith in
    ap (counters (counter iv n)) (suc-add k m)
    ∙ ap (λ (l : List (List ℕ)). counter iv n ∷ l)
    (ap (λ (b : List ℕ). counters b (k + m)) (inc32-counter iv n e h)
    ∙ counters-append iv e k m c (omega arith)
    ∙ ap₂ (λ (b : List ℕ) (j : ℕ). counters b k ++ counters (counter iv j) m) (sym (inc32-counter iv n e h)) q)

-- a drop past the end drops all
drop-capped : (x : List ℕ) (b : ℕ) → drop (min (length x) b) x ≡ drop b x
drop-capped [] b = drop-nil (min 0 b) ∙ sym (drop-nil b)
drop-capped (y ∷ ys) zero = rw min-zero
drop-capped (y ∷ ys) (suc b) = rw suc-min-suc (drop-capped ys b)

-- the text x of which the first i blocks are done
abbrev pub done : (List ℕ → List ℕ) → List ℕ → List ℕ → ℕ → List ℕ
done ciph icb x i = xors x (stream ciph (counters icb i)) ++ drop (16 * i) x

pub gctr-count : (ciph : List ℕ → List ℕ) (icb x : List ℕ) → length (gctr ciph icb x).enciphered ≡ blocks_in (length x)
unfolding gctr
gctr-count ciph icb x = length-counters icb (blocks_in (length x))

-- the blocks enciphered for a text in two parts, the first of whole blocks: those of both, one list after the other
pub gctr-append-blocks : (ciph : List ℕ → List ℕ) (iv x y : List ℕ) (n k : ℕ) → length iv ≡ 12 → n < 2 ^ 32 → length x ≡ 16 * k
    → (gctr ciph (counter iv n) (x ++ y)).enciphered ≡ (gctr ciph (counter iv n) x).enciphered ++ (gctr ciph (counter iv ((n + k) % 2 ^ 32)) y).enciphered
unfolding gctr blocks_in
gctr-append-blocks ciph iv x y n k e h l =
    let m : ℕ = blocks_in (length y) in
    let all : blocks_in (length (x ++ y)) ≡ k + m = omega (arith, length-append x y) in
    let first : blocks_in (length x) ≡ k = omega arith in
    ap (counters (counter iv n)) all
    ∙ counters-append iv e k m n h
    ∙ ap (λ (j : ℕ). counters (counter iv n) j ++ counters (counter iv ((n + k) % 2 ^ 32)) m) (sym first)

-- ---- the stream, for a cipher whose blocks are sixteen bytes long

module _ (ciph : List ℕ → List ℕ) (ciph-16 : (b : List ℕ) → length (ciph b) ≡ 16) where
  pub length-stream : (bs : List (List ℕ)) → length (stream ciph bs) ≡ 16 * length bs
  unfolding stream
  length-stream [] = refl
  length-stream (b ∷ bs) = omega (arith, length-append (ciph b) (stream ciph bs), ciph-16 b, length-stream bs)

  stream-append : (bs cs : List (List ℕ)) → stream ciph (bs ++ cs) ≡ stream ciph bs ++ stream ciph cs
  unfolding stream
  stream-append [] cs = refl
  stream-append (b ∷ bs) cs = ap (λ (l : List ℕ). ciph b ++ l) (stream-append bs cs) ∙ sym (append_assoc (ciph b) (stream ciph bs) (stream ciph cs))

  -- ---- GCTR

  module _ (icb x : List ℕ) where
    abbrev S : List ℕ
    S = stream ciph (counters icb (blocks_in (length x)))

    -- the stream is as long as what it is added to
    stream-enough : length x ≤ length S
    unfolding blocks_in
    stream-enough = omega (arith, length-stream (counters icb (blocks_in (length x))), length-counters icb (blocks_in (length x)))

    pub gctr-length : length (gctr ciph icb x).bytes ≡ length x
    unfolding gctr
    gctr-length = omega (arith, length-xors x S, stream-enough)

    pub gctr-twice : (gctr ciph icb (gctr ciph icb x).bytes).bytes ≡ x
    unfolding gctr
    gctr-twice =
        ap (λ (n : ℕ). xors (xors x S) (stream ciph (counters icb (blocks_in n)))) gctr-length
        ∙ xors-twice x S stream-enough

  -- ---- in place, block by block

  pub done_none : (icb x : List ℕ) → x ≡ done ciph icb x 0
  unfolding counters stream
  done_none icb x = sym (ap (λ (l : List ℕ). l ++ x) (xors-nil x))

  pub done_all : (icb x : List ℕ) (i : ℕ) → i ≡ blocks_in (length x) → done ciph icb x i ≡ (gctr ciph icb x).bytes
  unfolding gctr blocks_in
  done_all icb x i e =
      let rest : drop (16 * i) x ≡ [] = drop_of_length-le x {i = 16 * i} (omega arith) in
      rw (rest, append-nil) (ap (λ (n : ℕ). xors x (stream ciph (counters icb n))) e)

  -- block i over the text from byte 16 i on
  module _ (iv x : List ℕ) (n i : ℕ) (e : length iv ≡ 12) (h : n < 2 ^ 32) (l : 16 * i < length x) where
    abbrev ks : List ℕ
    ks = ciph (counter iv ((n + i) % 2 ^ 32))

    abbrev before : List ℕ
    before = xors x (stream ciph (counters (counter iv n) i))

    long-stream : length (stream ciph (counters (counter iv n) i)) ≡ 16 * i
    long-stream = length-stream (counters (counter iv n) i) ∙ ap (λ (k : ℕ). 16 * k) (length-counters (counter iv n) i)

    long-before : length before ≡ 16 * i
    long-before = omega (arith, length-xors x (stream ciph (counters (counter iv n) i)), long-stream)

    rest : drop (16 * i) (done ciph (counter iv n) x i) ≡ drop (16 * i) x
    rest = drop_at before (drop (16 * i) x) (16 * i) long-before

    stream-more : stream ciph (counters (counter iv n) (suc i)) ≡ stream ciph (counters (counter iv n) i) ++ ks
    unfolding counters stream
    stream-more =
        ap (λ (k : ℕ). stream ciph (counters (counter iv n) k)) (sym (add-one i))
        ∙ ap (stream ciph) (counters-append iv e i 1 n h)
        ∙ stream-append (counters (counter iv n) i) (counter iv ((n + i) % 2 ^ 32) ∷ [])
        ∙ ap (λ (k : List ℕ). stream ciph (counters (counter iv n) i) ++ k) (append-nil ks)

    -- the block is added to what stands there: as much as a block, or as there is
    pub done_mid : (k : ℕ) → k ≡ min (length x) (16 * i + 16) - 16 * i
        → put_mid (16 * i) k (done ciph (counter iv n) x i) (xors (take k (drop (16 * i) (done ciph (counter iv n) x i))) ks) ≡ done ciph (counter iv n) x (suc i)
    done_mid k q =
        let X : List ℕ = drop (16 * i) x in
        let enough : min (length X) (length ks) ≤ k = omega (arith, length-drop (16 * i) x, ciph-16 (counter iv ((n + i) % 2 ^ 32))) in
        let c : 16 * i + k ≡ min (length x) (16 * suc i) = omega arith in
        ap₂ (λ (p r : List ℕ). p ++ (xors (take k r) ks ++ drop k r)) (take_at before X (16 * i) long-before) rest
        ∙ ap₂ (λ (y r : List ℕ). before ++ (y ++ r)) (xors-take X ks k enough) (drop-drop k (16 * i) x ∙ ap (λ (m : ℕ). drop m x) c ∙ drop-capped x (16 * suc i))
        ∙ sym (append_assoc before (xors X ks) (drop (16 * suc i) x))
        ∙ ap (λ (b : List ℕ). b ++ drop (16 * suc i) x)
        (ap (λ (m : ℕ). before ++ xors (drop m x) ks) (sym long-stream)
        ∙ sym (xors-append x (stream ciph (counters (counter iv n) i)) ks)
        ∙ ap (xors x) (sym stream-more))

    -- what is left after the block: nothing, where the block ends the text
    left : drop (16 * i + length (xors (drop (16 * i) x) ks)) (done ciph (counter iv n) x i) ≡ drop (16 * suc i) x
    left =
        let m : ℕ = length (xors (drop (16 * i) x) ks) in
        let q : m ≡ min (length x - 16 * i) 16 =
        length-xors (drop (16 * i) x) ks ∙ ap₂ min (length-drop (16 * i) x) (ciph-16 (counter iv ((n + i) % 2 ^ 32))) in
        let c : 16 * i + m ≡ min (length x) (16 * suc i) = omega arith in
        ap (λ (k : ℕ). drop (k + m) (done ciph (counter iv n) x i)) (sym long-before)
        ∙ drop-append-add before (drop (16 * i) x) m
        ∙ drop-drop m (16 * i) x
        ∙ ap (λ (k : ℕ). drop k x) c
        ∙ drop-capped x (16 * suc i)

    pub done_more : over (done ciph (counter iv n) x i) (16 * i) (xors (drop (16 * i) (done ciph (counter iv n) x i)) ks) ≡ done ciph (counter iv n) x (suc i)
    done_more =
        let D : List ℕ = done ciph (counter iv n) x i in
        ap (λ (r : List ℕ). take (16 * i) D ++ xors r ks ++ drop (16 * i + length (xors r ks)) D) rest
        ∙ ap₂ (λ (p r : List ℕ). p ++ xors (drop (16 * i) x) ks ++ r) (take_at before (drop (16 * i) x) (16 * i) long-before) left
        ∙ ap (λ (b : List ℕ). b ++ drop (16 * suc i) x)
        (ap (λ (k : ℕ). before ++ xors (drop k x) ks) (sym long-stream)
        ∙ sym (xors-append x (stream ciph (counters (counter iv n) i)) ks)
        ∙ ap (xors x) (sym stream-more))

  -- ---- a text in two parts, the first of whole blocks

  pub gctr-append : (iv x y : List ℕ) (n k : ℕ) → length iv ≡ 12 → n < 2 ^ 32 → length x ≡ 16 * k
      → (gctr ciph (counter iv n) (x ++ y)).bytes ≡ (gctr ciph (counter iv n) x).bytes ++ (gctr ciph (counter iv ((n + k) % 2 ^ 32)) y).bytes
  unfolding gctr blocks_in
  gctr-append iv x y n k e h l =
      let C : List (List ℕ) = counters (counter iv n) (blocks_in (length x)) in
      let D : List (List ℕ) = counters (counter iv ((n + k) % 2 ^ 32)) (blocks_in (length y)) in
      let whole : length x ≡ length (stream ciph C) = omega (arith, length-stream C, length-counters (counter iv n) (blocks_in (length x))) in
      ap (λ (bs : List (List ℕ)). xors (x ++ y) (stream ciph bs)) (gctr-append-blocks ciph iv x y n k e h l)
      ∙ ap (xors (x ++ y)) (stream-append C D)
      ∙ xors-parts x (stream ciph C) y (stream ciph D) whole
