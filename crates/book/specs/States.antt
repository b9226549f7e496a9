-- The state that holds just what a book's contents say, in fixed arrays filled out with 0s (document 01, "The book"): hosts and interfaces
-- in the book's order, an entry j of interface i at 16 i + j, names at 256 i, master secrets at 16 i; all records idle.
use Rattle.std.specs.Prelude.{ℕ, ◌-◌, List, [], ◌∷◌, ◌++◌, map, length, replicate}
use Rattle.octets.specs.Checks.{pick, is_zero}
use Rattle.state.specs.declared.Rights.{Rights}
use Rattle.state.specs.declared.State.{State}
use Rattle.state.specs.Flat.{no_rights, idle_records}
use Rattle.grammar.specs.Faults.{Fault, fault_in}
use Rattle.grammar.specs.Checks.{fault_of}
use Rattle.book.specs.Contents.{Host, Entry, Interface, Contents, contents_of}
use Rattle.book.specs.declared.Loaded as Declared

-- xs, filled out with 0s to n
unfoldable pub fill : ℕ → List ℕ → List ℕ
fill n xs = xs ++ replicate (n - length xs) 0

-- each filled out to w, one after the other
unfoldable pub laid : ℕ → List (List ℕ) → List ℕ
laid w [] = []
laid w (x ∷ xs) = fill w x ++ laid w xs

abbrev pub words_of : Interface → List ℕ
words_of i = map (λ (e : Entry). e.word) i.entries

abbrev pub owners_of : Interface → List ℕ
owners_of i = map (λ (e : Entry). e.owner) i.entries

unfoldable pub rights_of : Contents → Rights
rights_of c = record {
  words = fill 128 (laid 16 (map words_of c.interfaces));
  hosts = length c.hosts;
  interfaces = length c.interfaces;
  groups = fill 32 (map (λ (h : Host). h.group) c.hosts);
  sizes = fill 32 (map (λ (h : Host). length h.name) c.hosts);
  spans = fill 8 (map (λ (i : Interface). length i.name) c.interfaces);
  commands = fill 8 (map (λ (i : Interface). i.commands) c.interfaces);
  entries = fill 8 (map (λ (i : Interface). length i.entries) c.interfaces);
  owners = fill 128 (laid 16 (map owners_of c.interfaces));
  secrets = fill 128 (laid 16 (map (λ (i : Interface). i.secret) c.interfaces));
}

unfoldable pub names_of : Contents → List ℕ
names_of c = fill 8192 (laid 256 (map (λ (h : Host). h.name) c.hosts))

unfoldable pub labels_of : Contents → List ℕ
labels_of c = fill 2048 (laid 256 (map (λ (i : Interface). i.name) c.interfaces))

unfoldable pub state_of : Contents → State
state_of c = record { rights = rights_of c; records = idle_records; names = names_of c; labels = labels_of c }

-- "a refused one makes a state with no hosts and no interfaces"
unfoldable pub empty_state : State
empty_state = record { rights = no_rights; records = idle_records; names = replicate 8192 0; labels = replicate 2048 0 }

-- what a load answers: its number, the count of enciphered blocks, the place of the fault (0 if accepted), and the new state
pub record Loaded : Type 0 where
  pub number : ℕ
  pub blocks : ℕ
  pub offset : ℕ
  pub state : State

abbrev pub told : Declared.Loaded → Loaded
told l = record { number = (fault_in l.verdict).number; blocks = l.blocks; offset = (fault_in l.verdict).offset; state = l.state }

-- what loading a book gives: its number and place, no blocks, and the new state
unfoldable pub loaded_with : Fault → State → Loaded
loaded_with f s = record { number = f.number; blocks = 0; offset = f.offset; state = pick (is_zero f.number) s empty_state }

unfoldable pub loaded : List ℕ → Loaded
loaded b = loaded_with (fault_of b) (state_of (contents_of b))
