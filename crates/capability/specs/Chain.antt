-- Document 01, "Capability" (000, section 3.6): the chain of secrets.
use Rattle.std.specs.Prelude.{ℕ, suc, Bool, true, ◌&&◌, List, [], ◌∷◌, ◌++◌, eqb, replicate}
use Rattle.octets.specs.Checks.{pick}
use Rattle.octets.specs.Little.{octets}
use Rattle.aes.specs.Cipher.{cipher}
use Rattle.capability.specs.Enciphered.{Enciphered}

-- the all-ones word
abbrev pub all_ones : ℕ
all_ones = 18446744073709551615

-- "The first secret is the encryption, under the master secret, of a block with the ID in bytes 0 and 1 and zeros after."
abbrev pub id_block : ℕ → List ℕ
id_block id = octets 2 id ++ replicate 14 0

unfoldable pub first_secret : List ℕ → ℕ → List ℕ
first_secret master id = cipher master (id_block id)

-- "Then each secret in the chain is the key for the next, whose block is the word in bytes 0 to 7 and zeros after."
abbrev pub word_block : ℕ → List ℕ
word_block w = octets 8 w ++ replicate 8 0

unfoldable pub step : List ℕ → ℕ → List ℕ
step s w = cipher s (word_block w)

-- "The chain stops before the first all-ones word.": the secret at its end, from s over the words left
unfoldable pub chain : List ℕ → List ℕ → List ℕ
chain s [] = s
chain s (w ∷ ws) = pick (eqb w all_ones) s (chain (step s w) ws)

-- the blocks that the chain enciphers
unfoldable pub chain_blocks : List ℕ → List ℕ → List Enciphered
chain_blocks s [] = []
chain_blocks s (w ∷ ws) = pick (eqb w all_ones) [] (record { key = s; block = word_block w } ∷ chain_blocks (step s w) ws)

-- the right secret of a capability with that ID and those words, under a master secret, and the blocks it takes
unfoldable pub right_secret : List ℕ → ℕ → List ℕ → List ℕ
right_secret master id ws = chain (first_secret master id) ws

unfoldable pub right_blocks : List ℕ → ℕ → List ℕ → List Enciphered
right_blocks master id ws = record { key = master; block = id_block id } ∷ chain_blocks (first_secret master id) ws

-- how many words stand before the first all-ones word
unfoldable pub before : List ℕ → ℕ
before [] = 0
before (w ∷ ws) = pick (eqb w all_ones) 0 (suc (before ws))

-- every word is all ones
unfoldable pub only_ones : List ℕ → Bool
only_ones [] = true
only_ones (w ∷ ws) = eqb w all_ones && only_ones ws

-- words without a hole: after the first all-ones word only all-ones words
unfoldable pub tight : List ℕ → Bool
tight [] = true
tight (w ∷ ws) = pick (eqb w all_ones) (only_ones ws) (tight ws)
