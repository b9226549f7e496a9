-- Demand 2: "A command is accepted exactly when it stands up under the draft's section 3.6, FIPS 197, SP 800-38D and our order of checks, with command
-- bits over 64 bits and today's revocations." What it is to stand up, as plain facts: nothing here runs the check.
use Rattle.std.specs.Prelude.{◌≡◌, ◌⊎◌, Bool, List, [], ◌∷◌, ℕ, ◌+◌, ◌-◌, ◌/◌, ◌%◌, ◌^◌, ◌≤◌, ◌<◌, length, get_or}
use Rattle.aes.specs.Cipher.{cipher}
use Rattle.gcm.specs.Gcm.{plain, open'}
use Rattle.capability.specs.Chain.{right_secret}
use Rattle.fields.specs.Command.{additional, client_of, encrypted}
use Rattle.state.specs.declared.State.{State}
use Rattle.state.specs.declared.transitions.Phase.TheVariants.{Open}
use Rattle.state.specs.Sound.{SoundFacts}
use Rattle.promises.specs.Places.{zeros_shown, vector_shown, tag_shown}
use Rattle.promises.specs.Places.{client_said, number_said, group_said, interface_said, entry_said, length_said, command_said, zeros_said, words_said}
use Rattle.promises.specs.Places.{secret_said, group_of, record_at, commands_of, entries_of, master_of, owner_of, word_of}

-- "Bit c, of value 2^c": it is 1 in w
abbrev pub BitSet : ℕ → ℕ → Type 0
BitSet c w = w / 2 ^ c % 2 ≡ 1

-- a number that names one of n things
abbrev pub Names : ℕ → ℕ → Type 0
Names i n = (1 ≤ i) × (i ≤ n)

-- a group that is 0, or that one
abbrev pub OfGroup : ℕ → ℕ → Type 0
OfGroup g h = (g ≡ 0) ⊎ (g ≡ h)

-- of a packet: its open part (000, figure 2)
pub record OpenPart (s : State) (p : List ℕ) : Type 0 where
  pub long : 96 ≤ length p
  pub short : length p ≤ 16480
  pub zeros : zeros_shown p ≡ 0 ∷ 0 ∷ []
  pub client : Names (client_of p) s.rights.hosts
  pub vector : get_or p 4 0 < 128

-- of the client: an open connection, under which the packet is authentic and says the text t (SP 800-38D)
pub record Connected (s : State) (p : List ℕ) (last : ℕ) (t : List ℕ) : Type 0 where
  pub owed : Bool
  pub connected : (record_at s (client_of p)).phase ≡ Open last owed
  pub blocks : List (List ℕ)
  pub authentic :
      open' (cipher (record_at s (client_of p)).key) (vector_shown p) (additional p) (encrypted p) (tag_shown p) ≡ plain t blocks

-- of the text: its fields agree with the packet and the connection
pub record Fields (s : State) (p : List ℕ) (last : ℕ) (t : List ℕ) : Type 0 where
  pub client : client_said t ≡ client_of p
  pub zeros : zeros_said t ≡ 0 ∷ 0 ∷ 0 ∷ []
  pub payload : length_said t ≡ length p - 96
  pub number : last < number_said t
  pub group : OfGroup (group_said t) (group_of s.rights (client_of p))

-- "that bit is 1 in the entry's present word and in all four words"
abbrev pub Permitted : ℕ → ℕ → List ℕ → Type 0
Permitted c present words = BitSet c present × ((k : ℕ) → k < 4 → BitSet c (get_or words k 0))

-- of the interface i and the entry e that the text names: the entry is for the group, and permits command c today; the secret is the one at the
-- end of the chain (000, section 3.6)
pub record Entitled (s : State) (t : List ℕ) (i e c : ℕ) (words : List ℕ) : Type 0 where
  pub interface : Names i s.rights.interfaces
  pub entry : Names e (entries_of s.rights i)
  pub group : OfGroup (owner_of s.rights i e) (group_said t)
  pub command : c < commands_of s.rights i
  pub permitted : Permitted c (word_of s.rights i e) words
  pub genuine : secret_said t ≡ right_secret (master_of s.rights i) e words

-- all that is asked of the packet p, with a lent room of that length, but the right that it names
pub record Arrives (s : State) (p : List ℕ) (room : ℕ) : Type 0 where
  pub sound : SoundFacts s.rights
  pub outside : OpenPart s p
  pub fits : length p ≤ room + 96
  pub last : ℕ
  pub text : List ℕ
  pub inside : Connected s p last text
  pub says : Fields s p last text

-- it is entitled to what its text t names, by those reduction words
abbrev pub EntitledBy : State → List ℕ → List ℕ → Type 0
EntitledBy s t words = Entitled s t (interface_said t) (entry_said t) (command_said t) words

-- it stands up in the state s
pub record Stands (s : State) (p : List ℕ) (room : ℕ) : Type 0 where
  pub arrives : Arrives s p room
  pub entitled : EntitledBy s arrives.text (words_said arrives.text)
