-- A capability that was reached from the issued one by narrowings has its ID, words without a hole, and the secret at the end of their chain
-- (`whole`); it is 50 bytes (`reached-bytes`).
use mathlib.Core.Path.{◌≡◌, refl, sym, ap, subst, ◌∙◌}
use mathlib.Core.Logic.{◌≢◌}
use mathlib.Core.Bool.{Bool, true, false}
use mathlib.Core.List.{List, [], ◌∷◌, ◌++◌}
use Prim.Native.Nat.{ℕ, zero, suc, ◌<◌, ◌^◌}
use native.Mathlib.Omega.{arith}
use lib.Dec.{eqb}
use lib.ListN.{length, get_or}
use Rattle.octets.specs.Checks.{pick}
use Rattle.octets.specs.Little.{octets, Bytes}
use Rattle.octets.specs.Room.{part}
use Rattle.octets.proofs.LittleLaws.{bytes-octets}
use Rattle.aes.proofs.CipherLaws.{cipher-length}
use Rattle.capability.specs.Chain.{all_ones, id_block, first_secret, chain, step, right_secret, tight, only_ones}
use Rattle.capability.specs.Bytes.{id_of, four_at, secret_of, word_bytes, capability, narrowed, open?}
use Rattle.capability.specs.Calls.{issued, narrowing}
use Rattle.capability.proofs.BytesLaws.{id-back, word-at, secret-back, length-capability}
use Rattle.capability.proofs.ChainLaws.{length-step, chain-narrowed, narrowed-genuine}
use Rattle.capability.proofs.WordsLaws.{four-written}
use Rattle.promises.proofs.ByteLaws.{part_bytes, append-bytes, cipher-bytes}
use Rattle.promises.specs.Reached.{Reached, by-issue, by-narrowing}

pub length-narrowed : (w : ℕ) (ws : List ℕ) → length (narrowed w ws) ≡ length ws
unfolding narrowed
length-narrowed w [] = refl
length-narrowed w (x ∷ xs) = either (eqb x all_ones) (length-narrowed w xs) where
  either : (t : Bool) → length (narrowed w xs) ≡ length xs → length (pick t (w ∷ xs) (x ∷ narrowed w xs)) ≡ suc (length xs)
  either true e = refl
  either false e = ap suc e

-- each is a word of 64 bits
abbrev Low : List ℕ → Type 0
Low ws = (k : ℕ) → get_or ws k 0 < 2 ^ 64

low-narrowed : (w : ℕ) (ws : List ℕ) → w < 2 ^ 64 → Low ws → Low (narrowed w ws)
unfolding narrowed
low-narrowed w [] l h = h
low-narrowed w (x ∷ xs) l h = either (eqb x all_ones) (low-narrowed w xs l (λ k. h (suc k))) where
  either : (t : Bool) → Low (narrowed w xs) → Low (pick t (w ∷ xs) (x ∷ narrowed w xs))
  either true later zero = l
  either true later (suc k) = h (suc k)
  either false later zero = h 0
  either false later (suc k) = later k

-- four words of a capability read back
four-of : (id : ℕ) (ws s : List ℕ) → length ws ≡ 4 → Low ws → four_at (capability id ws s) 2 ≡ ws
four-of id ws s e h =
    rw (
      word-at id ws s 0 (omega arith) (h 0),
      word-at id ws s 1 (omega arith) (h 1),
      word-at id ws s 2 (omega arith) (h 2),
      word-at id ws s 3 (omega arith) (h 3),
    ) (sym (four-written ws e))

pub record Whole (master : List ℕ) (id : ℕ) (c : List ℕ) : Type 0 where
  pub named : id_of c ≡ id
  pub words : Low (four_at c 2)
  pub holeless : tight (four_at c 2) ≡ true
  pub secret : secret_of c ≡ right_secret master id (four_at c 2)

module _ (master : List ℕ) (id : ℕ) (low : id < 65536) where
  abbrev ones : List ℕ
  ones = all_ones ∷ all_ones ∷ all_ones ∷ all_ones ∷ []

  low_ones : Low ones
  low_ones zero = omega arith
  low_ones (suc zero) = omega arith
  low_ones (suc (suc zero)) = omega arith
  low_ones (suc (suc (suc zero))) = omega arith
  low_ones (suc (suc (suc (suc k)))) = omega arith

  first-whole : Whole master id (issued master id)
  unfolding issued tight only_ones right_secret chain first_secret
  first-whole =
      let four : four_at (issued master id) 2 ≡ ones = four-of id ones (first_secret master id) refl low_ones in record {
        named = id-back id ones (first_secret master id) low;
        words = subst Low (sym four) low_ones;
        holeless = ap tight four;
        secret =
            secret-back id ones (first_secret master id) refl (cipher-length master (id_block id))
            ∙ sym (ap (right_secret master id) four);
      }

  next-whole : (c : List ℕ) (w : ℕ) → Whole master id c → w < 2 ^ 64 → w ≢ all_ones → open? (four_at c 2) ≡ true → Whole master id (narrowing c w)
  unfolding narrowing
  next-whole c w h l d o =
      let ws : List ℕ = narrowed w (four_at c 2) in
      let new : List ℕ = step (secret_of c) w in
      let low-words : Low ws = low-narrowed w (four_at c 2) l h.words in
      let four = length-narrowed w (four_at c 2) in
      let read : four_at (capability (id_of c) ws new) 2 ≡ ws = four-of (id_of c) ws new four low-words in record {
        named = id-back (id_of c) ws new (omega (arith, h.named)) ∙ h.named;
        words = subst Low (sym read) low-words;
        holeless = ap tight read ∙ (chain-narrowed (first_secret master id) w (four_at c 2) d h.holeless o).1;
        secret =
            secret-back (id_of c) ws new four (length-step (secret_of c) w)
            ∙ ap (λ (x : List ℕ). step x w) h.secret
            ∙ sym (ap (right_secret master id) read ∙ narrowed-genuine master id w (four_at c 2) d h.holeless o);
      }

  pub whole : (c : List ℕ) → Reached master id c → Whole master id c
  whole _ by-issue = first-whole
  whole _ (by-narrowing c w r l d o) = next-whole c w (whole c r) l d o

  -- the words of the issued one, and of one that is narrowed
  pub issued-words : four_at (issued master id) 2 ≡ all_ones ∷ all_ones ∷ all_ones ∷ all_ones ∷ []
  unfolding issued
  issued-words = four-of id ones (first_secret master id) refl low_ones

  pub narrowing-words : (c : List ℕ) (w : ℕ) → Reached master id c → w < 2 ^ 64 → four_at (narrowing c w) 2 ≡ narrowed w (four_at c 2)
  unfolding narrowing
  narrowing-words c w r l =
      four-of (id_of c) (narrowed w (four_at c 2)) (step (secret_of c) w) (length-narrowed w (four_at c 2))
      (low-narrowed w (four_at c 2) l (whole c r).words)

-- ---- bytes

words-bytes : (ws : List ℕ) → Bytes (word_bytes ws)
unfolding word_bytes
words-bytes [] = tt
words-bytes (w ∷ ws) = append-bytes (octets 8 w) (word_bytes ws) (bytes-octets 8 w) (words-bytes ws)

pub capability-bytes : (id : ℕ) (ws secret : List ℕ) → Bytes secret → Bytes (capability id ws secret)
unfolding capability
capability-bytes id ws secret h =
    append-bytes (octets 2 id ++ word_bytes ws) secret (append-bytes (octets 2 id) (word_bytes ws) (bytes-octets 2 id) (words-bytes ws)) h

pub reached-bytes : (master : List ℕ) (id : ℕ) → Bytes master → (c : List ℕ) → Reached master id c → (length c ≡ 50) × Bytes c
unfolding issued narrowing first_secret step secret_of
reached-bytes master id h _ by-issue = (
  length-capability id _ _ refl (cipher-length master (id_block id)),
  capability-bytes id _ _ (cipher-bytes master (id_block id) h),
)
reached-bytes master id h _ (by-narrowing c w r l d o) =
    let before = reached-bytes master id h c r in (
      length-capability (id_of c) _ _ (length-narrowed w (four_at c 2)) (length-step (secret_of c) w),
      capability-bytes (id_of c) _ _ (cipher-bytes (part c 34 16) _ (part_bytes c before.1 34 16)),
    )
