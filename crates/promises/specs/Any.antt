-- Any call of the server's, a load of a book among them: what it is answered, which numbers document 01 allows it, the state that was there, after
-- the call, and the new state that it makes.
use Rattle.std.specs.Prelude.{◌≡◌, List, [], ℕ}
use Rattle.state.specs.declared.State.{State}
use Rattle.command.specs.Heard.{no_order}
use Rattle.book.specs.States.{empty_state, loaded}
use Rattle.promises.specs.Among.{allowed, book_numbers}
use Rattle.promises.specs.Step.{Call, Said, lent, answer, next}

pub data Any : Type 0 where
  call : Call → Any
  load : (book : List ℕ) → Any

-- a load has no room, no host number and no fields; the book is lent to be read
abbrev pub said_to : State → Any → Said
said_to s (call c) = answer s c
said_to s (load b) = record { number = (loaded b).number; blocks = (loaded b).blocks; host = 0; order = no_order; room = [] }

abbrev pub room_of : Any → List ℕ
room_of (call c) = lent c
room_of (load b) = []

abbrev pub allowed_to : Any → List ℕ
allowed_to (call c) = allowed c
allowed_to (load b) = book_numbers

-- "A load makes a new state and touches no other": it takes no state, so it can't touch one
abbrev pub state_after : State → Any → State
state_after s (call c) = next s c
state_after s (load b) = s

-- t is the new state that it makes: only a load makes one
abbrev pub Makes : Any → State → Type 0
Makes (call c) t = ⊥
Makes (load b) t = t ≡ (loaded b).state

-- "A refusal changes no record, no word and no lent byte." "a refusal gives 0 for these." "a refused one makes a state with no hosts and no
-- interfaces."
pub record Refused (s : State) (a : Any) : Type 0 where
  pub state : state_after s a ≡ s
  pub room : (said_to s a).room ≡ room_of a
  pub host : (said_to s a).host ≡ 0
  pub order : (said_to s a).order ≡ no_order
  pub made : (t : State) → Makes a t → (t ≡ empty_state) × (t.rights.hosts ≡ 0) × (t.rights.interfaces ≡ 0)
