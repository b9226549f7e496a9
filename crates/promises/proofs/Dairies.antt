-- The two dairies of specs/Dairies. Their books are good, and alike but for the mixer, by computation; then what the state loaded from the north book
-- holds of the panel and the filler.
use mathlib.Core.Path.{◌≡◌, refl, sym, ap, subst}
use mathlib.Core.Logic.{◌≢◌}
use mathlib.Core.List.{List, [], ◌∷◌}
use Prim.Native.Nat.{ℕ}
use native.Mathlib.Omega.{arith}
use borrow.Author.Tests.{eqb-true}
use lib.ListN.{get_or}
use Rattle.octets.specs.Little.{number, octets}
use Rattle.octets.specs.Same.{same}
use Rattle.layout.specs.Layout.{format, rows, total, kind, id, start, size, hosts_before, expected, group, secret, commands, entries, owner, word}
use Rattle.layout.specs.Layout.{lead, name_start, name}
use Rattle.grammar.specs.Names.{letter, inner_space, fitting}
use Rattle.grammar.specs.Faults.{Fault, none, first, each}
use Rattle.grammar.specs.Checks.{kind_fits, ordinal, size_fits, used_below, name_checks, interface_checks, body_checks, fault_of}
use Rattle.book.specs.Contents.{Entry, contents_of, host_count, hosts_from, interfaces_from, entries_from}
use Rattle.book.specs.States.{fill, laid, rights_of, names_of, state_of, loaded_with, loaded}
use Rattle.state.specs.declared.Rights.{Rights}
use Rattle.state.specs.Sound.{sound_rights, all_within, all_interfaces, interface_sound, all_words, all_below}
use Rattle.view.specs.Counted.{no_such, place}
use Rattle.view.specs.Right.{right_of}
use Rattle.gateway.specs.Request.{name_at, found, found_from, form_refusal, request_refusal, requesting}
use Rattle.gateway.specs.Revoke.{revoke_refusal, revoking}
use Rattle.promises.specs.Books.{interface_in, InBook, SameContents, AlikeBooks}
use Rattle.promises.specs.Dairies.{dairy, north, south, the_panel, the_filler, master, hello, proven, fills, scale_asks, mixer_loses}
use Rattle.promises.specs.Series.{after}
use Rattle.promises.specs.Step.{answer, next}
use Rattle.promises.specs.Places.{group_of, commands_of, entries_of, master_of, owner_of, word_of}

-- ---- the books

good : (fault_of north ≡ none) × (fault_of south ≡ none)
unfolding
    dairy octets number fault_of body_checks name_checks interface_checks used_below kind_fits ordinal size_fits first each fitting letter inner_space same
    format rows total kind id start size hosts_before expected commands entries word lead name_start name
good = (refl, refl)

pub panel-there : InBook the_panel north
unfolding contents_of host_count hosts_from interfaces_from dairy octets number rows kind start size hosts_before group lead name_start name
panel-there = record { number = (omega arith, omega arith); name = refl }

pub mixers-apart : ((interface_in north 2).secret ≢ (interface_in south 2).secret) × ((interface_in north 2).entries ≢ (interface_in south 2).entries)
unfolding
    contents_of host_count hosts_from interfaces_from entries_from dairy octets number rows kind start size hosts_before secret commands entries owner word
mixers-apart = (
  (λ e. let f : ◌≡◌ {A = ℕ} 7 9 = ap (λ (l : List ℕ). get_or l 0 0) e in absurd (omega arith)),
  (λ e. let f : ◌≡◌ {A = ℕ} 7 160 = ap (λ (l : List Entry). (get_or l 0 (record { owner = 0; word = 0 })).word) e in absurd (omega arith)),
)

pub books-alike : AlikeBooks the_filler north south
unfolding
    loaded loaded_with contents_of host_count hosts_from interfaces_from entries_from dairy octets number rows kind start size hosts_before group secret
    commands entries owner word lead name_start name
books-alike = record {
  first = ap (λ (f : Fault). f.number) good.0;
  second = ap (λ (f : Fault). f.number) good.1;
  hosts = refl;
  interfaces = refl;
  contents = λ i e n.
      subst (λ k. SameContents (interface_in north k) (interface_in south k)) (sym (eqb-true i 1 e)) (record { secret = refl; commands = refl; entries = refl });
}

-- ---- what a state holds of the panel and the filler; w is the present word of the filler's entry

pub record Holds (r : Rights) (w : ℕ) : Type 0 where
  pub hosts : r.hosts ≡ 2
  pub interfaces : r.interfaces ≡ 2
  pub group : group_of r 1 ≡ 1
  pub commands : commands_of r 1 ≡ 4
  pub entries : entries_of r 1 ≡ 1
  pub owner : owner_of r 1 1 ≡ 1
  pub word : word_of r 1 1 ≡ w
  pub secret : master_of r 1 ≡ master

pub holds-north : Holds (loaded north).state.rights 15
unfolding
    loaded loaded_with state_of rights_of fill laid fault_of body_checks name_checks interface_checks used_below kind_fits ordinal size_fits first each fitting
    letter inner_space same contents_of host_count hosts_from interfaces_from entries_from dairy octets number format rows total kind id start size
    hosts_before expected group secret commands entries owner word lead name_start name
holds-north = record {
  hosts = refl;
  interfaces = refl;
  group = refl;
  commands = refl;
  entries = refl;
  owner = refl;
  word = refl;
  secret = refl;
}

pub found-north : found (loaded north).state.rights (loaded north).state.names the_panel.name ≡ 1
unfolding
    found found_from name_at names_of loaded loaded_with state_of rights_of fill laid fault_of body_checks name_checks interface_checks used_below kind_fits ordinal
    size_fits first each fitting letter inner_space same contents_of host_count hosts_from interfaces_from entries_from dairy octets number format rows
    total kind id start size hosts_before expected group secret commands entries owner word lead name_start name
found-north = refl

-- ---- the others: the scale's request, and a revocation on the mixer, for which no call before them has changed names or rights

pub scale-asks : (answer (after (loaded north).state (hello ∷ [])) scale_asks).number ≡ 0
unfolding
    answer next after requesting request_refusal form_refusal found found_from name_at names_of sound_rights all_within all_interfaces interface_sound all_words
    all_below loaded loaded_with state_of rights_of fill laid fault_of body_checks name_checks interface_checks used_below kind_fits ordinal size_fits first each
    fitting letter inner_space same contents_of host_count hosts_from interfaces_from entries_from dairy octets number format rows total kind id start size
    hosts_before expected group secret commands entries owner word lead name_start name
scale-asks = refl

pub mixer-loses : (answer (after (loaded north).state (hello ∷ scale_asks ∷ proven ∷ fills ∷ [])) mixer_loses).number ≡ 0
unfolding
    answer next after revoking revoke_refusal no_such place right_of sound_rights all_within all_interfaces interface_sound all_words all_below loaded loaded_with
    state_of rights_of fill laid fault_of body_checks name_checks interface_checks used_below kind_fits ordinal size_fits first each fitting letter inner_space
    same contents_of host_count hosts_from interfaces_from entries_from dairy octets number format rows total kind id start size hosts_before expected
    group secret commands entries owner word lead name_start name
mixer-loses = refl
