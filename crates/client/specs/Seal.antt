-- Document 01: sealing a command. "Seal command: 28, 5, 12, 30, 7." The command's text (000, figure 2) with the capability's ID, words and secret,
-- sealed under the connection's key; the additional data are the first four bytes, the client ID and two zeros.
use Rattle.std.specs.Prelude.{ℕ, ◌+◌, not, ◌&&◌, List, [], ◌∷◌, ◌++◌, eqb, leb, ltb, length, drop}
use Rattle.octets.specs.Checks.{◌when◌, refusal}
use Rattle.octets.specs.Room.{number_at}
use Rattle.refusal.specs.Answer.{Answer}
use Rattle.aes.specs.Cipher.{cipher}
use Rattle.gcm.specs.Gcm.{seal}
use Rattle.capability.specs.Bytes.{id_of}
use Rattle.capability.specs.Calls.{answer, written}
use Rattle.capability.specs.Enciphered.{Enciphered, under_key}
use Rattle.fields.specs.Command.{command_lead, open_lead}
use Rattle.packet.specs.Sealed.{sealed_packet}
use Rattle.client.specs.declared.seal.Ask.{Ask}

-- a key, a vector and a capability of the right lengths are lent
unfoldable pub seal_refusal : List ℕ → List ℕ → List ℕ → ℕ → ℕ → ℕ → ℕ
seal_refusal key vector capability sequence payload room = refusal
    (28 when not (eqb (length key) 16 && (eqb (length vector) 12 && eqb (length capability) 50))
    ∷ 5 when leb 128 (number_at vector 0 1)
    ∷ 12 when eqb sequence 0
    ∷ 30 when ltb 16384 payload
    ∷ 7 when ltb room (96 + payload)
    ∷ [])

-- the fields, then the capability's words and secret as they stand, then the payload
unfoldable pub ask_text : Ask → List ℕ → List ℕ → List ℕ
ask_text a capability payload =
    command_lead a.client a.sequence a.group a.interface (id_of capability) (length payload) a.command
    ++ drop 2 capability ++ payload

unfoldable pub command_bytes : List ℕ → List ℕ → Ask → List ℕ → List ℕ → List ℕ
command_bytes key vector a capability payload = sealed_packet key (open_lead a.client) vector (ask_text a capability payload)

unfoldable pub seal_blocks : List ℕ → List ℕ → Ask → List ℕ → List ℕ → List Enciphered
seal_blocks key vector a capability payload =
    under_key key (seal (cipher key) vector (open_lead a.client) (ask_text a capability payload)).enciphered

unfoldable pub sealing : List ℕ → List ℕ → List ℕ → Ask → List ℕ → List ℕ → Answer
sealing key vector capability a payload room =
    answer (seal_refusal key vector capability a.sequence (length payload) (length room)) (seal_blocks key vector a capability payload)

-- the lent room after the call
unfoldable pub seal_room : List ℕ → List ℕ → List ℕ → Ask → List ℕ → List ℕ → List ℕ
seal_room key vector capability a payload room =
    written (seal_refusal key vector capability a.sequence (length payload) (length room)) (command_bytes key vector a capability payload) room
