-- Document 01, "The book": "The state holds names, secrets, words and one record per host in fixed arrays." Record i out of the flat arrays
-- and into them, an entry's word, and the parts of a state with no hosts and no interfaces. A place that isn't there holds the
-- idle record, and nothing can be stored there.
use Rattle.std.specs.Prelude.{◌≡◌, ℕ, ◌+◌, ◌*◌, ◌&&◌, List, ltb, length, get_or, set, replicate}
use Rattle.octets.specs.Checks.{pick}
use Rattle.octets.specs.Room.{part, over}
use Rattle.state.specs.declared.transitions.Record.{Record}
use Rattle.state.specs.declared.Rights.{Rights}
use Rattle.state.specs.declared.Records.{Records}
use Rattle.state.specs.Records.{closed, phase_of, tag_of, last_of}

abbrev pub record_there : Records → ℕ → Record
record_there s i = record {
  phase = phase_of (get_or s.tags i 0) (get_or s.lasts i 0);
  challenge = part s.challenges (i * 16) 16;
  key = part s.keys (i * 16) 16;
}

unfoldable pub record_of : Records → ℕ → Record
record_of s i = pick (ltb i 32) (record_there s i) closed

abbrev pub with_record_there : Records → ℕ → Record → Records
with_record_there s i r = record {
  tags = set s.tags i (tag_of r.phase);
  lasts = set s.lasts i (last_of r.phase);
  challenges = over s.challenges (i * 16) r.challenge;
  keys = over s.keys (i * 16) r.key;
}

unfoldable pub with_record : Records → ℕ → Record → Records
with_record s i r = pick (ltb i 32) (with_record_there s i r) s

-- the rights with other words
abbrev pub with_words : Rights → List ℕ → Rights
with_words s ws = record {
  words = ws;
  hosts = s.hosts;
  interfaces = s.interfaces;
  groups = s.groups;
  sizes = s.sizes;
  spans = s.spans;
  commands = s.commands;
  entries = s.entries;
  owners = s.owners;
  secrets = s.secrets;
}

-- the word of entry j of interface i replaced
unfoldable pub with_word : Rights → ℕ → ℕ → ℕ → Rights
with_word s i j w = pick (ltb i 8 && ltb j 16) (with_words s (set s.words (i * 16 + j) w)) s

unfoldable pub no_rights : Rights
no_rights = record {
  words = replicate 128 0;
  hosts = 0;
  interfaces = 0;
  groups = replicate 32 0;
  sizes = replicate 32 0;
  spans = replicate 8 0;
  commands = replicate 8 0;
  entries = replicate 8 0;
  owners = replicate 128 0;
  secrets = replicate 128 0;
}

unfoldable pub idle_records : Records
idle_records = record { tags = replicate 32 0; lasts = replicate 32 0; challenges = replicate 512 0; keys = replicate 512 0 }

-- the arrays have their lengths
pub record SizedRecord (r : Record) : Type 0 where
  pub challenge : length r.challenge ≡ 16
  pub key : length r.key ≡ 16

pub record Sized (s : Records) : Type 0 where
  pub tags : length s.tags ≡ 32
  pub lasts : length s.lasts ≡ 32
  pub challenges : length s.challenges ≡ 512
  pub keys : length s.keys ≡ 512
