-- A book's contents as columns over its rows, and that a good book's have room in the arrays.
use mathlib.Core.Path.{◌≡◌, ap, ◌∙◌}
use mathlib.Core.List.{List, map}
use Prim.Native.Nat.{ℕ, ◌+◌, ◌-◌, ◌≤◌, ◌<◌}
use native.Mathlib.Nat.{zero-add}
use native.Mathlib.Omega.{arith}
use lib.ListN.{length, get_or}
use Rattle.layout.specs.Layout.{rows, group, name, secret, commands, entries}
use Rattle.grammar.specs.Checks.{fault_of}
use Rattle.state.specs.declared.Rights.{Rights}
use Rattle.book.specs.Contents.{Host, Entry, Interface, host_count, hosts_from, entries_from, interfaces_from, contents_of}
use Rattle.book.specs.States.{fill, laid, words_of, owners_of, rights_of, names_of, labels_of}
use Rattle.book.specs.Columns.{collect, name_length, words, owners, contents, InRoom}
use Rattle.book.proofs.FillLaws.{length-collect, get_or-collect, map-collect}
use Rattle.book.proofs.RowLaws.{hosts-most, host_at, entry_at, interface_at, hosts-collect, entries-collect, interfaces-collect}
use Rattle.book.proofs.Good.{hosts-within, interfaces-within, name-within, entries-within}

pub count_entries : (b : List ℕ) (i : ℕ) → length (interface_at b i).entries ≡ entries b i
count_entries b i = ap length (entries-collect b i 0 (entries b i)) ∙ length-collect (entry_at b i) 0 (entries b i)

module _ (b : List ℕ) (h m : ℕ) where
  abbrev pub columns : Rights
  columns = record {
    words = fill 128 (laid 16 (collect (words b) h m));
    hosts = h;
    interfaces = m;
    groups = fill 32 (collect (group b) 0 h);
    sizes = fill 32 (collect (name_length b) 0 h);
    spans = fill 8 (collect (name_length b) h m);
    commands = fill 8 (collect (commands b) h m);
    entries = fill 8 (collect (entries b) h m);
    owners = fill 128 (laid 16 (collect (owners b) h m));
    secrets = fill 128 (laid 16 (collect (secret b) h m));
  }

  module _ {A : Type 0} where
    of-hosts : (f : Host → A) → map f (hosts_from b 0 h) ≡ collect (λ k. f (host_at b k)) 0 h
    of-hosts f = ap (map f) (hosts-collect b 0 h) ∙ map-collect f (host_at b) 0 h

    of-interfaces : (f : Interface → A) → map f (interfaces_from b h m) ≡ collect (λ k. f (interface_at b k)) h m
    of-interfaces f = ap (map f) (interfaces-collect b h m) ∙ map-collect f (interface_at b) h m

    of-entries : (f : Entry → A)
        → collect (λ i. map f (entries_from b i 0 (entries b i))) h m ≡ collect (λ i. collect (λ k. f (entry_at b i k)) 0 (entries b i)) h m
    of-entries f =
        ap (λ (g : ℕ → List A). collect g h m)
        (λ t i. (ap (map f) (entries-collect b i 0 (entries b i)) ∙ map-collect f (entry_at b i) 0 (entries b i)) t)

  counts : collect (λ i. length (entries_from b i 0 (entries b i))) h m ≡ collect (entries b) h m
  counts = ap (λ (g : ℕ → ℕ). collect g h m) (λ t i. count_entries b i t)

  pub rights-columns : rights_of (contents b h m) ≡ columns
  unfolding rights_of
  rights-columns = λ t. record {
    words = fill 128 (laid 16 ((of-interfaces words_of ∙ of-entries (λ (e : Entry). e.word)) t));
    hosts = (ap length (hosts-collect b 0 h) ∙ length-collect (host_at b) 0 h) t;
    interfaces = (ap length (interfaces-collect b h m) ∙ length-collect (interface_at b) h m) t;
    groups = fill 32 (of-hosts (λ (x : Host). x.group) t);
    sizes = fill 32 (of-hosts (λ (x : Host). length x.name) t);
    spans = fill 8 (of-interfaces (λ (x : Interface). length x.name) t);
    commands = fill 8 (of-interfaces (λ (x : Interface). x.commands) t);
    entries = fill 8 ((of-interfaces (λ (x : Interface). length x.entries) ∙ counts) t);
    owners = fill 128 (laid 16 ((of-interfaces owners_of ∙ of-entries (λ (e : Entry). e.owner)) t));
    secrets = fill 128 (laid 16 (of-interfaces (λ (x : Interface). x.secret) t));
  }

  pub names-columns : names_of (contents b h m) ≡ fill 8192 (laid 256 (collect (name b) 0 h))
  unfolding names_of
  names-columns = ap (λ (l : List (List ℕ)). fill 8192 (laid 256 l)) (of-hosts (λ (x : Host). x.name))

  pub labels-columns : labels_of (contents b h m) ≡ fill 2048 (laid 256 (collect (name b) h m))
  unfolding labels_of
  labels-columns = ap (λ (l : List (List ℕ)). fill 2048 (laid 256 l)) (of-interfaces (λ (x : Interface). x.name))

pub hosts-rows : (b : List ℕ) → host_count b ≤ rows b
unfolding host_count
hosts-rows b = hosts-most b (rows b)

pub good-room : (b : List ℕ) → (fault_of b).number ≡ 0 → InRoom b (host_count b) (rows b - host_count b)
good-room b e =
    let r = hosts-rows b in record {
      hosts = hosts-within b e;
      interfaces = interfaces-within b e;
      names = λ k l. rw zero-add (name-within b e k (omega arith)).1;
      labels = λ k l. (name-within b e (host_count b + k) (omega arith)).1;
      entries = λ k l. (entries-within b e (host_count b + k) (omega arith) (omega arith)).1;
    }

-- how many hosts and interfaces the contents have, and what they say of each and of its entries, by the rows
module _ (b : List ℕ) where
  pub count-hosts : length (contents_of b).hosts ≡ host_count b
  unfolding contents_of
  count-hosts = ap length (hosts-collect b 0 (host_count b)) ∙ length-collect (host_at b) 0 (host_count b)

  pub count-interfaces : length (contents_of b).interfaces ≡ rows b - host_count b
  unfolding contents_of
  count-interfaces =
      ap length (interfaces-collect b (host_count b) (rows b - host_count b))
      ∙ length-collect (interface_at b) (host_count b) (rows b - host_count b)

  pub host-there : (i : ℕ) (d : Host) → i < host_count b → get_or (contents_of b).hosts i d ≡ host_at b i
  unfolding contents_of
  host-there i d l =
      ap (λ (hs : List Host). get_or hs i d) (hosts-collect b 0 (host_count b))
      ∙ get_or-collect (host_at b) 0 (host_count b) i d l
      ∙ ap (host_at b) (zero-add i)

  pub interface-there : (i : ℕ) (d : Interface) → i < rows b - host_count b
      → get_or (contents_of b).interfaces i d ≡ interface_at b (host_count b + i)
  unfolding contents_of
  interface-there i d l =
      ap (λ (is : List Interface). get_or is i d) (interfaces-collect b (host_count b) (rows b - host_count b))
      ∙ get_or-collect (interface_at b) (host_count b) (rows b - host_count b) i d l

  pub entry-there : (i j : ℕ) (d : Entry) → j < entries b i → get_or (interface_at b i).entries j d ≡ entry_at b i j
  entry-there i j d l =
      ap (λ (es : List Entry). get_or es j d) (entries-collect b i 0 (entries b i))
      ∙ get_or-collect (entry_at b i) 0 (entries b i) j d l
      ∙ ap (entry_at b i) (zero-add j)
