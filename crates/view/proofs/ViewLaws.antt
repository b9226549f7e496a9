-- What a call sees of the host, the interface and the entry that it names, where there are such.
use mathlib.Core.Path.{◌≡◌}
use mathlib.Core.Bool.{true, false}
use Prim.Native.Nat.{ℕ, ◌+◌, ◌*◌, ◌-◌}
use native.Mathlib.Omega.{arith}
use lib.ListN.{length, get_or}
use Rattle.octets.specs.Room.{part}
use Rattle.octets.proofs.RoomLaws.{filled-there}
use Rattle.state.specs.declared.Rights.{Rights}
use Rattle.state.specs.declared.Records.{Records}
use Rattle.state.specs.Flat.{record_of, Sized, SizedRecord}
use Rattle.state.specs.Sound.{sound_rights}
use Rattle.state.proofs.RecordLaws.{sized-record_of}
use Rattle.state.proofs.SoundLaws.{sound-facts}
use Rattle.view.specs.Counted.{no_such, place}
use Rattle.view.specs.View.{see}
use Rattle.view.specs.Right.{interface_place, entry_place, right_of}
use Rattle.view.proofs.CountedLaws.{such, place-there}

module _ (r : Rights) (s : Records) (h : ℕ) where
  pub held-there : no_such h r.hosts ≡ false → (see r s h).held ≡ record_of s (h - 1)
  unfolding see
  held-there e = rw (place-there h r.hosts 32 e)

  pub group-there : no_such h r.hosts ≡ false → (see r s h).group ≡ get_or r.groups (h - 1) 0
  unfolding see
  group-there e = rw (place-there h r.hosts 32 e)

  pub sized-held : Sized s → SizedRecord (see r s h).held
  unfolding see
  sized-held z = sized-record_of s (place h r.hosts 32) z

module _ (r : Rights) (i e : ℕ) (q : no_such i r.interfaces ≡ false) where
  interface-place : interface_place r i ≡ i - 1
  interface-place = place-there i r.interfaces 8 q

  pub commands-there : (right_of r i e).commands ≡ get_or r.commands (i - 1) 0
  unfolding right_of
  commands-there = rw interface-place

  pub entries-there : (right_of r i e).entries ≡ get_or r.entries (i - 1) 0
  unfolding right_of
  entries-there = rw interface-place

  pub secret-there : sound_rights r ≡ true → length r.secrets ≡ 128 → (right_of r i e).secret ≡ part r.secrets ((i - 1) * 16) 16
  unfolding right_of
  secret-there p l =
      let f = sound-facts r p in
      let k = such i r.interfaces q in
      rw interface-place (filled-there 16 r.secrets ((i - 1) * 16) (omega arith))

  entry_place_lem : no_such e (get_or r.entries (i - 1) 0) ≡ false → entry_place r i e ≡ (i - 1) * 16 + (e - 1)
  entry_place_lem t = rw (interface-place, place-there e (get_or r.entries (i - 1) 0) 128 t)

  pub owner-there : no_such e (get_or r.entries (i - 1) 0) ≡ false → (right_of r i e).owner ≡ get_or r.owners ((i - 1) * 16 + (e - 1)) 0
  unfolding right_of
  owner-there t = rw (entry_place_lem t)

  pub word-there : no_such e (get_or r.entries (i - 1) 0) ≡ false → (right_of r i e).word ≡ get_or r.words ((i - 1) * 16 + (e - 1)) 0
  unfolding right_of
  word-there t = rw (entry_place_lem t)
