-- The chain of secrets: how many blocks it takes, its secrets' length, how the code makes them, and that a narrowed
-- capability is genuine: words without a hole, narrowed, chain to the old secret moved one step.
use mathlib.Core.Path.{◌≡◌, refl, ap, ◌∙◌}
use mathlib.Core.Bool.{Bool, true, false, false≢true}
use mathlib.Core.List.{List, [], ◌∷◌}
use Prim.Native.Nat.{ℕ, ◌+◌}
use native.Mathlib.Omega.{arith}
use borrow.Author.Tests.{ne_eqb}
use lib.Dec.{eqb}
use lib.ListN.{length, replicate}
use Rattle.octets.specs.Checks.{pick}
use Rattle.octets.specs.Little.{octets}
use Rattle.octets.specs.Room.{placed, filled}
use Rattle.octets.proofs.PlacedLaws.{block_start}
use lib.Seq.{take_all}
use Rattle.octets.proofs.RoomLaws.{filled-there}
use Rattle.octets.proofs.CheckLaws.{tests, pick-ap, and_left, and_right}
use Rattle.aes.specs.Cipher.{cipher}
use Rattle.aes.proofs.CipherLaws.{cipher-length}
use Rattle.capability.specs.Chain.{all_ones, word_block, first_secret, step, chain, chain_blocks, right_secret, right_blocks, before, only_ones, tight}
use Rattle.capability.specs.Bytes.{narrowed, open?}

-- a block for each word before the stop
pub count-chain : (s ws : List ℕ) → length (chain_blocks s ws) ≡ before ws
unfolding chain_blocks before
count-chain s [] = refl
count-chain s (w ∷ ws) =
    pick-ap length (eqb w all_ones) [] (record { key = s; block = word_block w } ∷ chain_blocks (step s w) ws) ∙ rw (count-chain (step s w) ws)

pub count-right : (master : List ℕ) (id : ℕ) (ws : List ℕ) → length (right_blocks master id ws) ≡ 1 + before ws
unfolding right_blocks
count-right master id ws = omega (arith, count-chain (first_secret master id) ws)

pub length-step : (s : List ℕ) (w : ℕ) → length (step s w) ≡ 16
unfolding step
length-step s w = cipher-length s (word_block w)

pub length-chain : (s ws : List ℕ) → length s ≡ 16 → length (chain s ws) ≡ 16
unfolding chain
length-chain s [] h = h
length-chain s (w ∷ ws) h = either (eqb w all_ones) (length-chain (step s w) ws (length-step s w)) where
  either : (t : Bool) → length (chain (step s w) ws) ≡ 16 → length (pick t s (chain (step s w) ws)) ≡ 16
  either true r = h
  either false r = r

pub length-right : (master : List ℕ) (id : ℕ) (ws : List ℕ) → length (right_secret master id ws) ≡ 16
unfolding right_secret first_secret
length-right master id ws = length-chain (first_secret master id) ws (cipher-length master _)

-- the secrets as the code makes them: a number's bytes, put at the start of a block of zeros
pub first_made : (master : List ℕ) (id : ℕ) → cipher master (placed (replicate 16 0) 0 (octets 2 id)) ≡ first_secret master id
unfolding first_secret
first_made master id = ap (cipher master) (block_start 2 id (omega arith))

pub step_made : (s : List ℕ) (w : ℕ) → cipher s (placed (replicate 16 0) 0 (octets 8 w)) ≡ step s w
unfolding step
step_made s w = ap (cipher s) (block_start 8 w (omega arith))

-- bytes that are all there, as they are read
pub filled_all : (k : ℕ) (s : List ℕ) → length s ≡ k → filled k s 0 ≡ s
filled_all k s e = filled-there k s 0 (omega arith) ∙ take_all k s (omega arith)

pub ruleset made = (tests, filled-there, filled_all, first_made, step_made)

chain-ones : (s ws : List ℕ) → only_ones ws ≡ true → chain s ws ≡ s
unfolding chain only_ones
chain-ones s [] h = refl
chain-ones s (w ∷ ws) h = rw (and_left (eqb w all_ones) (only_ones ws) h)

tight-ones : (ws : List ℕ) → only_ones ws ≡ true → tight ws ≡ true
unfolding tight only_ones
tight-ones [] h = refl
tight-ones (w ∷ ws) h = rw (and_left (eqb w all_ones) (only_ones ws) h) (and_right (eqb w all_ones) (only_ones ws) h)

-- narrowing words without a hole moves the secret one step, and leaves no hole
pub chain-narrowed : (s : List ℕ) (w : ℕ) (ws : List ℕ) → (w ≡ all_ones → ⊥) → tight ws ≡ true → open? ws ≡ true
    → (chain s (narrowed w ws) ≡ step (chain s ws) w) × (tight (narrowed w ws) ≡ true)
unfolding chain tight narrowed open?
chain-narrowed s w [] n h o = absurd (false≢true o)
chain-narrowed s w (x ∷ xs) n h o = either (eqb x all_ones) refl (chain-narrowed (step s x) w xs n) where
  either : (t : Bool) → eqb x all_ones ≡ t
      → (tight xs ≡ true → open? xs ≡ true → (chain (step s x) (narrowed w xs) ≡ step (chain (step s x) xs) w) × (tight (narrowed w xs) ≡ true))
      → (chain s (narrowed w (x ∷ xs)) ≡ step (chain s (x ∷ xs)) w) × (tight (narrowed w (x ∷ xs)) ≡ true)
  either true e r =
      let only : only_ones xs ≡ true = rw e at h in
      rw (e, ne_eqb w all_ones n) (chain-ones (step s w) xs only, tight-ones xs only)
  either false e r = rw (e, e) (r (rw e at h) (rw e at o))

pub narrowed-genuine : (master : List ℕ) (id w : ℕ) (ws : List ℕ) → (w ≡ all_ones → ⊥) → tight ws ≡ true → open? ws ≡ true
    → right_secret master id (narrowed w ws) ≡ step (right_secret master id ws) w
unfolding right_secret
narrowed-genuine master id w ws n h o = (chain-narrowed (first_secret master id) w ws n h o).0
