-- What a call about host h sees of a state: whether it is sound, its counts, and the host's group and record. Where there is no such host
-- it sees group 0 and an idle record: place 32 lies past the last.
use Rattle.std.specs.Prelude.{ℕ, get_or}
use Rattle.state.specs.declared.Rights.{Rights}
use Rattle.state.specs.declared.Records.{Records}
use Rattle.state.specs.Flat.{record_of}
use Rattle.state.specs.Sound.{sound_rights}
use Rattle.view.specs.Counted.{place}
use Rattle.view.specs.declared.View.{View}

unfoldable pub see : Rights → Records → ℕ → View
see r s h = record {
  good = sound_rights r;
  hosts = r.hosts;
  interfaces = r.interfaces;
  group = get_or r.groups (place h r.hosts 32) 0;
  held = record_of s (place h r.hosts 32);
}
