-- A packet under GCM (SP 800-38D, section 7): additional data, vector, tag and ciphertext, one after the other. Command packets and replies
-- are both such; a reply has no additional data.
use Rattle.std.specs.Prelude.{ℕ, Bool, List, ◌++◌, length}
use Rattle.octets.specs.Checks.{pick}
use Rattle.octets.specs.Room.{fits}
use Rattle.octets.specs.Same.{same}
use Rattle.aes.specs.Cipher.{cipher}
use Rattle.gcm.specs.Gctr.{Out, inc32, gctr}
use Rattle.gcm.specs.Gcm.{subkey, j0, tag_of, Sealed, seal}

-- the tag is that of the additional data and the ciphertext
unfoldable pub right_tag : (List ℕ → List ℕ) → List ℕ → List ℕ → List ℕ → List ℕ → Bool
right_tag ciph a iv t c = same (tag_of ciph (subkey ciph) iv a c).bytes t

-- the text of a ciphertext
unfoldable pub text_of : (List ℕ → List ℕ) → List ℕ → List ℕ → Out
text_of ciph iv c = gctr ciph (inc32 (j0 iv)) c

unfoldable pub sealed_packet : List ℕ → List ℕ → List ℕ → List ℕ → List ℕ
sealed_packet key a iv text = let s : Sealed = seal (cipher key) iv a text in a ++ iv ++ s.tag ++ s.bytes

-- how many blocks sealing enciphers; none where the packet doesn't fit the room
unfoldable pub sealed_blocks : List ℕ → List ℕ → List ℕ → List ℕ → List ℕ → ℕ
sealed_blocks key a iv text room = pick (fits (sealed_packet key a iv text) room) (length (seal (cipher key) iv a text).enciphered) 0
