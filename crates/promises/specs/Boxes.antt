-- Document 01, "What the proofs settle": "Demand 2 shuts out a box that refuses all, accepts all, keeps its state as it was, chains the first word and
-- waves the other three through, or invents its block count." A box is what it answers to a call in a state, and the state after the call. What is
-- said of a box here is said of commands alone, so that no other call helps to tell it from ours.
use Rattle.std.specs.Prelude.{◌≡◌, ◌≢◌, List, [], ◌∷◌, ℕ, ◌<◌, length, get_or}
use Rattle.capability.specs.Chain.{all_ones}
use Rattle.state.specs.declared.State.{State}
use Rattle.promises.specs.Places.{command_said, words_said}
use Rattle.promises.specs.Step.{Call, command, Said}
use Rattle.promises.specs.Stands.{BitSet, Arrives, EntitledBy}

pub record Box : Type 0 where
  pub says : State → Call → Said
  pub becomes : State → Call → State

abbrev pub RefusesAll : Box → Type 0
RefusesAll b = (s : State) (p room : List ℕ) → (b.says s (command p room)).number ≢ 0

abbrev pub AcceptsAll : Box → Type 0
AcceptsAll b = (s : State) (p room : List ℕ) → (b.says s (command p room)).number ≡ 0

abbrev pub KeepsState : Box → Type 0
KeepsState b = (s : State) (p room : List ℕ) → b.becomes s (command p room) ≡ s

-- the words of a text, the last three waved through: read as all ones, they neither move the secret nor take a bit
abbrev pub first_word : List ℕ → List ℕ
first_word t = get_or (words_said t) 0 0 ∷ all_ones ∷ all_ones ∷ all_ones ∷ []

-- a packet that stands up by its first word: `Stands`, but for the other three
pub record StandsByFirst (s : State) (p : List ℕ) (room : ℕ) : Type 0 where
  pub arrives : Arrives s p room
  pub entitled : EntitledBy s arrives.text (first_word arrives.text)

abbrev pub FirstWordOnly : Box → Type 0
FirstWordOnly b = (s : State) (p room : List ℕ) → StandsByFirst s p (length room) → (b.says s (command p room)).number ≡ 0

-- less is asked of this one: it may look for the bit in all four words, and chains the first alone
abbrev pub FirstWordChained : Box → Type 0
FirstWordChained b =
    (s : State) (p room : List ℕ) (h : StandsByFirst s p (length room))
    → ((k : ℕ) → k < 4 → BitSet (command_said h.arrives.text) (get_or (words_said h.arrives.text) k 0))
    → (b.says s (command p room)).number ≡ 0

-- a count made up from all but the packet's bytes: from the state, the room, the number of the answer and the packet's length, by whatever rule
pub record InventsCount (b : Box) : Type 0 where
  pub rule : State → List ℕ → ℕ → ℕ → ℕ
  pub count : (s : State) (p room : List ℕ) → (b.says s (command p room)).blocks ≡ rule s room (b.says s (command p room)).number (length p)
