-- Demand 2: the facts of `Stands`, in document 01's order: "Command: 39, then 1 to 19."
use Rattle.std.specs.Prelude.{◌≡◌, Bool, List, [], ◌∷◌, ℕ, ◌+◌, ◌-◌, ◌≤◌, ◌<◌, length, get_or}
use Rattle.aes.specs.Cipher.{cipher}
use Rattle.gcm.specs.Gcm.{plain, open'}
use Rattle.capability.specs.Chain.{right_secret}
use Rattle.packet.specs.Sealed.{text_of}
use Rattle.fields.specs.Command.{additional, client_of, encrypted}
use Rattle.state.specs.declared.State.{State}
use Rattle.state.specs.declared.transitions.Phase.TheVariants.{Open}
use Rattle.state.specs.Sound.{SoundFacts}
use Rattle.promises.specs.Rules.{Rule, ◌unless◌, Hold, slice}
use Rattle.promises.specs.Places.{zeros_shown, vector_shown, tag_shown}
use Rattle.promises.specs.Places.{client_said, number_said, group_said, interface_said, entry_said, length_said, command_said, zeros_said, words_said}
use Rattle.promises.specs.Places.{secret_said, group_of, record_at, commands_of, entries_of, master_of, owner_of, word_of}
use Rattle.promises.specs.Stands.{Names, OfGroup, Permitted}

-- what a packet's encrypted part says under the key of the client that its open part names (SP 800-38D, GCTR)
abbrev pub text_in : State → List ℕ → List ℕ
text_in s p = (text_of (cipher (record_at s (client_of p)).key) (vector_shown p) (encrypted p)).bytes

-- it is authentic under that key (SP 800-38D), and says that text
pub record Authentic (s : State) (p : List ℕ) : Type 0 where
  pub blocks : List (List ℕ)
  pub opens : open' (cipher (record_at s (client_of p)).key) (vector_shown p) (additional p) (encrypted p) (tag_shown p)
      ≡ plain (text_in s p) blocks

-- the connection of host h is open, and P holds of its last accepted number
pub record OpenWith (s : State) (h : ℕ) (P : ℕ → Type 0) : Type 0 where
  pub last : ℕ
  pub owed : Bool
  pub phase : (record_at s h).phase ≡ Open last owed
  pub holds : P last

-- of the packet p and a lent room of that length; of its text t; and of the interface i, the entry e, the command c and the four reduction words that
-- the text names
abbrev pub facts_of : State → List ℕ → ℕ → List ℕ → ℕ → ℕ → ℕ → List ℕ → List Rule
facts_of s p room t i e c words =
    39 unless SoundFacts s.rights
    ∷ 1 unless (96 ≤ length p)
    ∷ 2 unless (length p ≤ 16480)
    ∷ 3 unless (zeros_shown p ≡ 0 ∷ 0 ∷ [])
    ∷ 4 unless Names (client_of p) s.rights.hosts
    ∷ 5 unless (get_or p 4 0 < 128)
    ∷ 6 unless OpenWith s (client_of p) (λ last. Unit)
    ∷ 7 unless (length p ≤ room + 96)
    ∷ 8 unless Authentic s p
    ∷ 9 unless (client_said t ≡ client_of p)
    ∷ 10 unless (zeros_said t ≡ 0 ∷ 0 ∷ 0 ∷ [])
    ∷ 11 unless (length_said t ≡ length p - 96)
    ∷ 12 unless OpenWith s (client_of p) (λ last. last < number_said t)
    ∷ 13 unless OfGroup (group_said t) (group_of s.rights (client_of p))
    ∷ 14 unless Names i s.rights.interfaces
    ∷ 15 unless Names e (entries_of s.rights i)
    ∷ 16 unless OfGroup (owner_of s.rights i e) (group_said t)
    ∷ 17 unless (c < commands_of s.rights i)
    ∷ 18 unless Permitted c (word_of s.rights i e) words
    ∷ 19 unless (secret_said t ≡ right_secret (master_of s.rights i) e words)
    ∷ []

-- of a packet and a lent room
abbrev pub command_facts : State → List ℕ → ℕ → List Rule
command_facts s p room =
    let t : List ℕ = text_in s p in
    facts_of s p room t (interface_said t) (entry_said t) (command_said t) (words_said t)

-- "A command opens when it gets past 8.": the first nine facts hold
abbrev pub Opens : State → List ℕ → ℕ → Type 0
Opens s p room = Hold (slice 0 9 (command_facts s p room))
