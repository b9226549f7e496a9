-- Demand 3: "Over two loads of good books (same hosts, same number of interfaces, same contents for the chosen ones) and any two series of server
-- calls other than load": the two loaded states look alike to a host of the books, so it is told the same over the two series.
use mathlib.Core.Path.{◌≡◌, refl, sym, ap, ◌∙◌}
use mathlib.Core.Bool.{Bool, true, false}
use mathlib.Core.List.{List, [], ◌∷◌}
use Prim.Native.Nat.{ℕ, ◌+◌, ◌*◌, ◌-◌, ◌<◌}
use native.Mathlib.Nat.{mul_comm}
use native.Mathlib.Omega.{arith}
use lib.ListN.{length, get_or}
use Rattle.octets.specs.Room.{part}
use Rattle.grammar.specs.Checks.{fault_of}
use Rattle.state.specs.declared.Rights.{Rights}
use Rattle.book.specs.Contents as C
use Rattle.book.specs.States.{loaded_with, loaded}
use Rattle.book.proofs.RowLaws.{host_at}
use Rattle.book.proofs.ContentLaws.{count-hosts, count-interfaces, count_entries, host-there, interface-there, entry-there}
use Rattle.book.proofs.LoadLaws.{load-hosts, load-interfaces, load-name, load-group, load-secret, load-commands, load-entries, load-owner, load_word}
use Rattle.book.proofs.LoadLaws.{load-sound, load-idle, load_sized, load-words, load-secrets}
use Rattle.gateway.specs.Request.{name_at}
use Rattle.promises.specs.Step.{Call}
use Rattle.promises.specs.Series.{after}
use Rattle.promises.specs.Places.{record_at}
use Rattle.promises.specs.Stands.{Names}
use Rattle.promises.specs.Typed.{Typed}
use Rattle.promises.specs.Told.{Machine, mine, keep, keep_if, heard, AllNamed}
use Rattle.promises.specs.Alike.{SoundTyped, IsHost, SameHosts, SameInterface, Alike}
use Rattle.promises.specs.Books.{interface_in, InBook, SameContents, AlikeBooks}
use Rattle.promises.proofs.Alone.{noninterference}
use Rattle.promises.proofs.Ends.{ends-alike}

-- a host of both books, and two series in which the calls about it and the revocations on chosen interfaces are the same, in the same order; and each
-- of its commands that opens in the first names a chosen interface or a number that no interface has
abbrev pub LoadsApart : Type 0
LoadsApart =
    (A : Machine) (chosen : ℕ → Bool) (x y : List ℕ) (xs ys : List Call) → InBook A x → AlikeBooks chosen x y
    → keep (mine A chosen) xs ≡ keep (mine A chosen) ys → AllNamed A chosen (loaded x).state xs
    → heard A (loaded x).state xs ≡ heard A (loaded y).state ys

-- "Calls left out count as other calls, so A's answers are also those of a box that heard only A and those revocations.": also over the other load
abbrev pub LoadsAlone : Type 0
LoadsAlone =
    (A : Machine) (chosen : ℕ → Bool) (x y : List ℕ) (xs : List Call) → InBook A x → AlikeBooks chosen x y
    → AllNamed A chosen (loaded x).state xs
    → heard A (loaded x).state xs ≡ heard A (loaded y).state (keep (mine A chosen) xs)

-- and its record is the same after the two
abbrev pub LoadsEnd : Type 0
LoadsEnd =
    (A : Machine) (chosen : ℕ → Bool) (x y : List ℕ) (xs ys : List Call) → InBook A x → AlikeBooks chosen x y
    → keep (mine A chosen) xs ≡ keep (mine A chosen) ys → AllNamed A chosen (loaded x).state xs
    → record_at (after (loaded x).state xs) A.number ≡ record_at (after (loaded y).state ys) A.number

-- ---- every loaded state, of a good book or a refused one

pub typed-loaded : (b : List ℕ) → Typed (loaded b).state
typed-loaded b = record { words = load-words b; secrets = load-secrets b; records = load_sized b }

pub sound-loaded : (b : List ℕ) → SoundTyped (loaded b).state
sound-loaded b = record { sound = load-sound b; words = load-words b; records = load_sized b }

-- ---- a good book's state holds what the book says

-- what is read where there is no host and no entry
abbrev no_host : C.Host
no_host = record { group = 0; name = [] }

abbrev no_entry : C.Entry
no_entry = record { owner = 0; word = 0 }

-- interface i holds what x says
record Holds (r : Rights) (i : ℕ) (x : C.Interface) : Type 0 where
  commands : get_or r.commands (i - 1) 0 ≡ x.commands
  entries : get_or r.entries (i - 1) 0 ≡ length x.entries
  secret : part r.secrets ((i - 1) * 16) 16 ≡ x.secret
  owner : (e : ℕ) → Names e (get_or r.entries (i - 1) 0)
      → get_or r.owners ((i - 1) * 16 + (e - 1)) 0 ≡ (get_or x.entries (e - 1) no_entry).owner
  word : (e : ℕ) → Names e (get_or r.entries (i - 1) 0)
      → get_or r.words ((i - 1) * 16 + (e - 1)) 0 ≡ (get_or x.entries (e - 1) no_entry).word

-- where both hold what is the same, they have the same contents
holds_same : {r q : Rights} {i : ℕ} {x y : C.Interface} → Holds r i x → Holds q i y → SameContents x y → SameInterface r q i
holds_same h k s =
    let count = h.entries ∙ ap length s.entries ∙ sym k.entries in record {
      commands = h.commands ∙ s.commands ∙ sym k.commands;
      entries = count;
      secret = h.secret ∙ s.secret ∙ sym k.secret;
      owner = λ e l. h.owner e l ∙ rw s.entries (sym (k.owner e (rw count at l)));
      word = λ e l. h.word e l ∙ rw s.entries (sym (k.word e (rw count at l)));
    }

module _ (b : List ℕ) (good : (loaded b).number ≡ 0) where
  no-fault : (fault_of b).number ≡ 0
  unfolding loaded loaded_with
  no-fault = good

  hosts-there : (loaded b).state.rights.hosts ≡ length (C.contents_of b).hosts
  hosts-there = load-hosts b no-fault ∙ sym (count-hosts b)

  interfaces-there : (loaded b).state.rights.interfaces ≡ length (C.contents_of b).interfaces
  interfaces-there = load-interfaces b no-fault ∙ sym (count-interfaces b)

  -- the host at place i, counted from 0
  module _ (i : ℕ) (l : i < (loaded b).state.rights.hosts) where
    host-row : host_at b i ≡ get_or (C.contents_of b).hosts i no_host
    host-row = sym (host-there b i no_host (rw (load-hosts b no-fault) at l))

    name-there : name_at (loaded b).state.rights (loaded b).state.names i ≡ (get_or (C.contents_of b).hosts i no_host).name
    unfolding name_at
    name-there = rw (mul_comm i 256) (load-name b no-fault i l) ∙ ap (λ (h : C.Host). h.name) host-row

    group-there : get_or (loaded b).state.rights.groups i 0 ≡ (get_or (C.contents_of b).hosts i no_host).group
    group-there = load-group b no-fault i l ∙ ap (λ (h : C.Host). h.group) host-row

  -- interface i, counted from 1
  holds : (i : ℕ) → Names i (loaded b).state.rights.interfaces → Holds (loaded b).state.rights i (interface_in b i)
  holds i n =
      let l : i - 1 < (loaded b).state.rights.interfaces = omega arith in
      let k : ℕ = C.host_count b + (i - 1) in
      let count = load-entries b no-fault (i - 1) l in
      rw (interface-there b (i - 1) _ (rw (load-interfaces b no-fault) at l)) (record {
        commands = load-commands b no-fault (i - 1) l;
        entries = count ∙ sym (count_entries b k);
        secret = rw (mul_comm (i - 1) 16) (load-secret b no-fault (i - 1) l);
        owner = λ e m.
            rw (mul_comm (i - 1) 16, entry-there b k (e - 1) no_entry (omega arith)) (load-owner b no-fault (i - 1) l (e - 1) (omega arith));
        word = λ e m.
            rw (mul_comm (i - 1) 16, entry-there b k (e - 1) no_entry (omega arith)) (load_word b no-fault (i - 1) l (e - 1) (omega arith));
      })

-- ---- two loads

module _ (A : Machine) (chosen : ℕ → Bool) (x y : List ℕ) (a : InBook A x) (h : AlikeBooks chosen x y) where
  host-loaded : IsHost A (loaded x).state
  host-loaded =
      let count = hosts-there x h.first in record {
        number = rw count a.number;
        name = name-there x h.first (A.number - 1) (omega arith) ∙ a.name;
      }

  hosts-loaded : SameHosts (loaded x).state (loaded y).state
  hosts-loaded =
      let count = hosts-there x h.first ∙ ap length h.hosts ∙ sym (hosts-there y h.second) in record {
        count = count;
        name = λ i l. name-there x h.first i l ∙ rw h.hosts (sym (name-there y h.second i (rw count at l)));
        group = λ i l. group-there x h.first i l ∙ rw h.hosts (sym (group-there y h.second i (rw count at l)));
      }

  pub alike-loads : Alike A chosen (loaded x).state (loaded y).state
  alike-loads =
      let count = interfaces-there x h.first ∙ h.interfaces ∙ sym (interfaces-there y h.second) in record {
        first = sound-loaded x;
        second = sound-loaded y;
        host = host-loaded;
        hosts = hosts-loaded;
        interfaces = count;
        contents = λ i c l.
            holds_same (holds x h.first i l) (holds y h.second i (rw count at l)) (h.contents i c (rw (interfaces-there x h.first) at l));
        held = load-idle x (A.number - 1) ∙ sym (load-idle y (A.number - 1));
      }

-- what is kept is kept again
keep-again : {T : Type 0} (f : T → Bool) (xs : List T) → keep f (keep f xs) ≡ keep f xs
keep-again f [] = refl
keep-again f (x ∷ xs) = by-test (f x) refl (keep-again f xs) where
  by-test : (b : Bool) → f x ≡ b → keep f (keep f xs) ≡ keep f xs → keep f (keep_if b x (keep f xs)) ≡ keep_if b x (keep f xs)
  by-test true e later = rw (e, later)
  by-test false e later = later

pub loads-apart : LoadsApart
loads-apart A chosen x y xs ys a h = noninterference A chosen (loaded x).state (loaded y).state xs ys (alike-loads A chosen x y a h)

pub loads-alone : LoadsAlone
loads-alone A chosen x y xs a h = loads-apart A chosen x y xs (keep (mine A chosen) xs) a h (sym (keep-again (mine A chosen) xs))

pub loads-end : LoadsEnd
loads-end A chosen x y xs ys a h e n = (ends-alike A chosen (loaded x).state (loaded y).state xs ys (alike-loads A chosen x y a h) e n).held
