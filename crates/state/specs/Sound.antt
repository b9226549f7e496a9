-- Document 01, "The book": a state "is sound if its host and interface counts are in range (0 hosts too) and so is every length and count it
-- uses, and no entry's word has a bit at or above its command count". Letters, repeated names, groups, records and what lies beyond
-- a count are not judged.
use Rattle.std.specs.Prelude.{Bool, true, ◌&&◌, List, ℕ, zero, suc, ◌+◌, ◌*◌, ◌^◌, ◌≤◌, ◌<◌, leb, ltb, get_or}
use Rattle.octets.specs.Range.{between}
use Rattle.state.specs.declared.Rights.{Rights}

-- a test passes at each number below n
unfoldable pub all_below : (ℕ → Bool) → ℕ → Bool
all_below f zero = true
all_below f (suc n) = all_below f n && f n

-- the first n values are each from 1 to most
unfoldable pub all_within : List ℕ → ℕ → ℕ → Bool
all_within vs most n = all_below (λ i. between 1 most (get_or vs i 0)) n

-- e words from a place on have no bit at or above c: they are below 2 ^ c
unfoldable pub all_words : List ℕ → ℕ → ℕ → ℕ → Bool
all_words ws from c e = all_below (λ j. ltb (get_or ws (from + j) 0) (2 ^ c)) e

-- one interface: name length 1 to 256, command count 1 to 64, entry count 1 to 16, and its words
unfoldable pub interface_sound : List ℕ → ℕ → ℕ → ℕ → ℕ → Bool
interface_sound ws from span c e = between 1 256 span && (between 1 64 c && (between 1 16 e && all_words ws from c e))

unfoldable pub all_interfaces : List ℕ → List ℕ → List ℕ → List ℕ → ℕ → Bool
all_interfaces ws spans cs es n = all_below (λ i. interface_sound ws (i * 16) (get_or spans i 0) (get_or cs i 0) (get_or es i 0)) n

unfoldable pub sound_rights : Rights → Bool
sound_rights s =
    leb s.hosts 32
    && (leb s.interfaces 8
    && (all_within s.sizes 256 s.hosts
    && all_interfaces s.words s.spans s.commands s.entries s.interfaces))

-- ---- the same, as plain facts (proofs/SoundLaws: `sound-facts`, `of-sound`)

-- from 1 to n
abbrev pub Within : ℕ → ℕ → Type 0
Within n v = (1 ≤ v) × (v ≤ n)

-- one interface
pub record InterfaceFacts (ws : List ℕ) (from n c e : ℕ) : Type 0 where
  pub span : Within 256 n
  pub commands : Within 64 c
  pub entries : Within 16 e
  pub word : (j : ℕ) → j < e → get_or ws (from + j) 0 < 2 ^ c

pub record SoundFacts (s : Rights) : Type 0 where
  pub hosts : s.hosts ≤ 32
  pub interfaces : s.interfaces ≤ 8
  pub size : (i : ℕ) → i < s.hosts → Within 256 (get_or s.sizes i 0)
  pub interface : (i : ℕ) → i < s.interfaces
      → InterfaceFacts s.words (i * 16) (get_or s.spans i 0) (get_or s.commands i 0) (get_or s.entries i 0)
