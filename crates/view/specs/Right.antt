-- What a command sees of the interface and the entry that it names: the interface's command count, entry count and master secret, the entry's
-- group and present word. Of what isn't there it sees zeros: place 8 lies past the last
-- interface, and place 128 past the last entry.
use Rattle.std.specs.Prelude.{ℕ, ◌+◌, ◌*◌, get_or}
use Rattle.octets.specs.Room.{sixteen_at}
use Rattle.state.specs.declared.Rights.{Rights}
use Rattle.view.specs.Counted.{place}
use Rattle.view.specs.declared.Right.{Right}

-- where interface i stands among the interfaces, and entry e of it among the entries
abbrev pub interface_place : Rights → ℕ → ℕ
interface_place r i = place i r.interfaces 8

abbrev pub entry_place : Rights → ℕ → ℕ → ℕ
entry_place r i e = interface_place r i * 16 + place e (get_or r.entries (interface_place r i) 0) 128

unfoldable pub right_of : Rights → ℕ → ℕ → Right
right_of r i e = record {
  commands = get_or r.commands (interface_place r i) 0;
  entries = get_or r.entries (interface_place r i) 0;
  owner = get_or r.owners (entry_place r i e) 0;
  word = get_or r.words (entry_place r i e) 0;
  secret = sixteen_at r.secrets (interface_place r i * 16);
}
