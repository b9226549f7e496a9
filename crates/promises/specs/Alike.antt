-- Demand 3: two sound states that look alike to a machine.
use Rattle.std.specs.Prelude.{◌≡◌, Bool, true, ℕ, ◌-◌, ◌<◌, length, get_or}
use Rattle.state.specs.declared.State.{State}
use Rattle.state.specs.declared.Rights.{Rights}
use Rattle.state.specs.Flat.{Sized}
use Rattle.state.specs.Sound.{sound_rights}
use Rattle.gateway.specs.Request.{name_at}
use Rattle.promises.specs.Places.{record_at, commands_of, entries_of, master_of, owner_of, word_of}
use Rattle.promises.specs.Stands.{Names}
use Rattle.promises.specs.Told.{Machine}

-- a sound state, in arrays of their lengths
pub record SoundTyped (s : State) : Type 0 where
  pub sound : sound_rights s.rights ≡ true
  pub words : length s.rights.words ≡ 128
  pub records : Sized s.records

-- A is one of the hosts
pub record IsHost (A : Machine) (s : State) : Type 0 where
  pub number : Names A.number s.rights.hosts
  pub name : name_at s.rights s.names (A.number - 1) ≡ A.name

-- as many hosts, of the same names and groups
pub record SameHosts (s t : State) : Type 0 where
  pub count : s.rights.hosts ≡ t.rights.hosts
  pub name : (i : ℕ) → i < s.rights.hosts → name_at s.rights s.names i ≡ name_at t.rights t.names i
  pub group : (i : ℕ) → i < s.rights.hosts → get_or s.rights.groups i 0 ≡ get_or t.rights.groups i 0

-- interface i has the same contents: command count, entry count and master secret, and of each entry its group and its present word
pub record SameInterface (r q : Rights) (i : ℕ) : Type 0 where
  pub commands : commands_of r i ≡ commands_of q i
  pub entries : entries_of r i ≡ entries_of q i
  pub secret : master_of r i ≡ master_of q i
  pub owner : (e : ℕ) → Names e (entries_of r i) → owner_of r i e ≡ owner_of q i e
  pub word : (e : ℕ) → Names e (entries_of r i) → word_of r i e ≡ word_of q i e

-- the same hosts, as many interfaces, the same contents of the chosen ones, and the same record of A
pub record Alike (A : Machine) (chosen : ℕ → Bool) (s t : State) : Type 0 where
  pub first : SoundTyped s
  pub second : SoundTyped t
  pub host : IsHost A s
  pub hosts : SameHosts s t
  pub interfaces : s.rights.interfaces ≡ t.rights.interfaces
  pub contents : (i : ℕ) → chosen i ≡ true → Names i s.rights.interfaces → SameInterface s.rights t.rights i
  pub held : record_at s A.number ≡ record_at t A.number
