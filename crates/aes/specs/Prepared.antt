-- A key made ready for many blocks. What it holds is this crate's own affair: others use `under-prepared` (proofs/PreparedLaws),
-- that under the prepared key a block is enciphered as under the key.
use Rattle.std.specs.Prelude.{ℕ, zero, suc, ◌+◌, ◌*◌, List, [], ◌++◌, get_or}
use Rattle.aes.specs.State.{state}
use Rattle.aes.specs.KeyExpansion.{round_key}
use Rattle.aes.specs.Cipher.{cipher_by}

-- the first n round keys, one after the other
unfoldable pub keys : List ℕ → ℕ → List ℕ
keys key zero = []
keys key (suc n) = keys key n ++ round_key key n

-- here: all eleven round keys
unfoldable pub prepared : List ℕ → List ℕ
prepared key = keys key 11

-- the sixteen bytes of round key i
abbrev pub key_at : List ℕ → ℕ → List ℕ
key_at p i = state (λ r c. get_or p (16 * i + (r + 4 * c)) 0)

-- the encryption of a block under a prepared key
unfoldable pub under : List ℕ → List ℕ → List ℕ
under p block = cipher_by (key_at p) block
