-- What a load gives. Its state is sound, its arrays have their lengths and all its records are idle, whether the book is good or
-- refused. A good book's hosts are all there, and each name, group, label, master secret, command count, owner and word is read back
-- where it stands, as long as the state says; a refused load's state has no hosts and no interfaces.
use mathlib.Core.Path.{◌≡◌, refl, ap, ◌∙◌}
use mathlib.Core.Bool.{true, false}
use mathlib.Core.List.{List}
use Prim.Native.Nat.{ℕ, zero, suc, ◌+◌, ◌*◌, ◌-◌, ◌<◌}
use native.Mathlib.Nat.{zero-add, mul_comm}
use native.Mathlib.Omega.{arith}
use lib.ListN.{length, get_or}
use Rattle.octets.specs.Checks.{is_zero}
use Rattle.octets.specs.Room.{part}
use Rattle.layout.specs.Layout.{rows, group, name, secret, commands, entries, owner, word}
use Rattle.grammar.specs.Faults.{Fault}
use Rattle.grammar.specs.Checks.{fault_of}
use Rattle.grammar.proofs.FaultLaws.{fault_in-one}
use Rattle.grammar.proofs.GoodLaws.{good_none}
use Rattle.state.specs.declared.State.{State}
use Rattle.state.specs.Records.{closed}
use Rattle.state.specs.Flat.{no_rights, idle_records, record_of, Sized}
use Rattle.state.specs.Sound.{sound_rights}
use Rattle.state.proofs.RecordLaws.{sized-idle, idle-all}
use Rattle.state.proofs.SoundLaws.{of-sound, sound_none}
use Rattle.book.specs.Contents.{host_count, contents_of}
use Rattle.book.specs.States.{fill, laid, state_of, empty_state, Loaded, told, loaded_with, loaded}
use Rattle.book.specs.declared.Loaded as Declared
use Rattle.book.specs.Columns.{collect, name_length, words, Short}
use Rattle.book.proofs.FillLaws.{length-collect, length-fill, length-laid, get_or-collect, get_or-column, get_or-laid, part-laid}
use Rattle.book.proofs.RowLaws.{secret-short}
use Rattle.book.proofs.Good.{hosts-within, interfaces-within, name-within, commands-within, entries-within, word_below, secret-whole}
use Rattle.book.proofs.ContentLaws.{hosts-rows, good-room, columns, rights-columns, names-columns, labels-columns}

not-zero : (n : ℕ) → (n ≡ 0 → ⊥) → is_zero n ≡ false
not-zero zero h = absurd (h refl)
not-zero (suc n) h = refl

module _ (f : Fault) (s : State) where
  pub refused : (f.number ≡ 0 → ⊥) → loaded_with f s ≡ record { number = f.number; blocks = 0; offset = f.offset; state = empty_state }
  unfolding loaded_with
  refused h = rw (not-zero f.number h)

  pub accepted : f.number ≡ 0 → loaded_with f s ≡ record { number = 0; blocks = 0; offset = f.offset; state = s }
  unfolding loaded_with
  accepted e = rw e

abbrev state_columns : List ℕ → ℕ → ℕ → State
state_columns b h m = record {
  rights = columns b h m;
  records = idle_records;
  names = fill 8192 (laid 256 (collect (name b) 0 h));
  labels = fill 2048 (laid 256 (collect (name b) h m));
}

-- what a load answers, told once
pub told-one : (x y : Declared.Loaded) → told x ≡ told y → x ≡ y
told-one x y e =
    let v = fault_in-one x.verdict y.verdict (λ t. record { number = (e t).number; offset = (e t).offset }) in
    λ t. record { verdict = v t; blocks = (e t).blocks; state = (e t).state }

-- a refused load's state
module _ (b : List ℕ) (r : (fault_of b).number ≡ 0 → ⊥) where
  load-empty : (loaded b).state ≡ empty_state
  unfolding loaded
  load-empty = ap (λ (l : Loaded). l.state) (refused (fault_of b) (state_of (contents_of b)) r)

  pub load-none : ((loaded b).state.rights.hosts ≡ 0) × ((loaded b).state.rights.interfaces ≡ 0)
  unfolding empty_state no_rights
  load-none = (ap (λ (s : State). s.rights.hosts) load-empty, ap (λ (s : State). s.rights.interfaces) load-empty)

-- a good book's state
module _ (b : List ℕ) (e : (fault_of b).number ≡ 0) where
  abbrev h : ℕ
  h = host_count b

  abbrev m : ℕ
  m = rows b - h

  load-columns : (loaded b).state ≡ state_columns b h m
  unfolding loaded state_of contents_of
  load-columns =
      ap (λ (l : Loaded). l.state) (accepted (fault_of b) (state_of (contents_of b)) e)
      ∙ (λ t. record {
        rights = rights-columns b h m t;
        records = idle_records;
        names = names-columns b h m t;
        labels = labels-columns b h m t;
      })

  pub load-offset : (loaded b).offset ≡ 0
  unfolding loaded loaded_with
  load-offset = ap (λ (f : Fault). f.offset) (good_none b e)

  pub load-hosts : (loaded b).state.rights.hosts ≡ host_count b
  load-hosts = ap (λ (s : State). s.rights.hosts) load-columns

  pub load-interfaces : (loaded b).state.rights.interfaces ≡ rows b - host_count b
  load-interfaces = ap (λ (s : State). s.rights.interfaces) load-columns

  column-name : (i : ℕ) → i < h
      → part (state_columns b h m).names (256 * i) (get_or (columns b h m).sizes i 0) ≡ name b i
  column-name i l =
      rw (get_or-column (name_length b) 32 0 h i l, zero-add) (rw (zero-add i) at (part-laid 256 (name b) 8192 0 h i l (good-room b e).names))

  pub load-name : (i : ℕ) → i < (loaded b).state.rights.hosts
      → part (loaded b).state.names (256 * i) (get_or (loaded b).state.rights.sizes i 0) ≡ name b i
  load-name i l = rw load-columns (column-name i (rw load-hosts at l))

  pub load-group : (i : ℕ) → i < (loaded b).state.rights.hosts → get_or (loaded b).state.rights.groups i 0 ≡ group b i
  load-group i l = rw load-columns (get_or-column (group b) 32 0 h i (rw load-hosts at l) ∙ ap (group b) (zero-add i))

  module _ (i : ℕ) (l : i < m) where
    column-label : part (state_columns b h m).labels (256 * i) (get_or (columns b h m).spans i 0) ≡ name b (h + i)
    column-label = rw (get_or-column (name_length b) 8 h m i l) (part-laid 256 (name b) 2048 h m i l (good-room b e).labels)

    column-secret : part (columns b h m).secrets (16 * i) 16 ≡ secret b (h + i)
    column-secret =
        rw (secret-whole b e (h + i) (omega arith) (omega arith)) at
        (part-laid 16 (secret b) 128 h m i l (λ k _. secret-short b (h + k)))

    -- a number of each entry
    column-entry : (f : ℕ → ℕ → ℕ) (j : ℕ) → j < entries b (h + i)
        → get_or (fill 128 (laid 16 (collect (λ k. collect (f k) 0 (entries b k)) h m))) (16 * i + j) 0 ≡ f (h + i) j
    column-entry f j k =
        get_or-laid 16 (λ n. collect (f n) 0 (entries b n)) 128 h m i j l (λ n q. rw length-collect ((good-room b e).entries n q)) (rw length-collect k)
        ∙ get_or-collect (f (h + i)) 0 (entries b (h + i)) j 0 k
        ∙ ap (f (h + i)) (zero-add j)

    column-owner : (j : ℕ) → j < entries b (h + i) → get_or (columns b h m).owners (16 * i + j) 0 ≡ owner b (h + i) j
    column-owner = column-entry (owner b)

    column-word : (j : ℕ) → j < entries b (h + i) → get_or (columns b h m).words (16 * i + j) 0 ≡ word b (h + i) j
    column-word = column-entry (word b)

  -- rows of 16 fill an array of 128
  laid-length : (f : ℕ → List ℕ) → Short 16 f h m → length (fill 128 (laid 16 (collect f h m))) ≡ 128
  laid-length f s = length-fill 128 (laid 16 (collect f h m)) (omega (arith, length-laid 16 f h m s, interfaces-within b e))

  columns-words : length (columns b h m).words ≡ 128
  columns-words = laid-length (words b) (λ n q. rw length-collect ((good-room b e).entries n q))

  columns-secrets : length (columns b h m).secrets ≡ 128
  columns-secrets = laid-length (secret b) (λ n _. secret-short b (h + n))

  columns-sound : sound_rights (columns b h m) ≡ true
  columns-sound =
      let q = hosts-rows b in
      of-sound (columns b h m) (record {
        hosts = hosts-within b e;
        interfaces = interfaces-within b e;
        size = λ i l. rw (get_or-column (name_length b) 32 0 h i l, zero-add) (name-within b e i (omega arith));
        interface = λ i l.
            rw (get_or-column (name_length b) 8 h m i l, get_or-column (commands b) 8 h m i l, get_or-column (entries b) 8 h m i l) (record {
              span = name-within b e (h + i) (omega arith);
              commands = commands-within b e (h + i) (omega arith) (omega arith);
              entries = entries-within b e (h + i) (omega arith) (omega arith);
              word = λ j k.
                  rw (mul_comm i 16, column-word i l j k) (word_below b e (h + i) (omega arith) (omega arith) j k);
            });
      })

  module _ (i : ℕ) (l : i < (loaded b).state.rights.interfaces) where
    pub load-label : part (loaded b).state.labels (256 * i) (get_or (loaded b).state.rights.spans i 0) ≡ name b (host_count b + i)
    load-label = rw load-columns (column-label i (rw load-interfaces at l))

    pub load-secret : part (loaded b).state.rights.secrets (16 * i) 16 ≡ secret b (host_count b + i)
    load-secret = rw load-columns (column-secret i (rw load-interfaces at l))

    pub load-commands : get_or (loaded b).state.rights.commands i 0 ≡ commands b (host_count b + i)
    load-commands = rw load-columns (get_or-column (commands b) 8 h m i (rw load-interfaces at l))

    pub load-entries : get_or (loaded b).state.rights.entries i 0 ≡ entries b (host_count b + i)
    load-entries = rw load-columns (get_or-column (entries b) 8 h m i (rw load-interfaces at l))

    pub load-owner : (j : ℕ) → j < get_or (loaded b).state.rights.entries i 0
        → get_or (loaded b).state.rights.owners (16 * i + j) 0 ≡ owner b (host_count b + i) j
    load-owner j k = rw load-columns (column-owner i (rw load-interfaces at l) j (rw load-entries at k))

    pub load_word : (j : ℕ) → j < get_or (loaded b).state.rights.entries i 0
        → get_or (loaded b).state.rights.words (16 * i + j) 0 ≡ word b (host_count b + i) j
    load_word j k = rw load-columns (column-word i (rw load-interfaces at l) j (rw load-entries at k))

-- good or refused
module _ (b : List ℕ) where
  either_way : (P : State → Type 0) → ((e : (fault_of b).number ≡ 0) → P (state_columns b (host_count b) (rows b - host_count b))) → P empty_state
      → P (loaded b).state
  either_way P good bad = by (fault_of b).number refl where
    by : (n : ℕ) → (fault_of b).number ≡ n → P (loaded b).state
    by zero z = rw (load-columns b z) (good z)
    by (suc n) z = rw (load-empty b (λ y. omega arith)) bad

  pub load-sound : sound_rights (loaded b).state.rights ≡ true
  unfolding empty_state
  load-sound = either_way (λ s. sound_rights s.rights ≡ true) (λ e. columns-sound b e) sound_none

  pub load-idle : (i : ℕ) → record_of (loaded b).state.records i ≡ closed
  unfolding empty_state
  load-idle i = either_way (λ s. record_of s.records i ≡ closed) (λ e. idle-all i) (idle-all i)

  pub load_sized : Sized (loaded b).state.records
  unfolding empty_state
  load_sized = either_way (λ s. Sized s.records) (λ e. sized-idle) sized-idle

  pub load-words : length (loaded b).state.rights.words ≡ 128
  unfolding empty_state no_rights
  load-words = either_way (λ s. length s.rights.words ≡ 128) (λ e. columns-words b e) refl

  pub load-secrets : length (loaded b).state.rights.secrets ≡ 128
  unfolding empty_state no_rights
  load-secrets = either_way (λ s. length s.rights.secrets ≡ 128) (λ e. columns-secrets b e) refl
