-- How long the pieces and the lines of a listing are, and the listing of a sound state.
use mathlib.Core.Path.{◌≡◌}
use mathlib.Core.Bool.{true}
use mathlib.Core.List.{List}
use Prim.Native.Nat.{ℕ, zero, suc, ◌+◌, ◌*◌, ◌≤◌, ◌<◌}
use native.Mathlib.Omega.{arith}
use lib.ListN.{length, get_or, drop, length-append, length-take}
use Rattle.octets.specs.Room.{part}
use Rattle.state.specs.declared.Rights.{Rights}
use Rattle.state.specs.Sound.{sound_rights}
use Rattle.state.proofs.SoundLaws.{sound-facts}
use Rattle.listing.specs.Lines.{counts_line, host_line, interface_line, lines_from, listing_of}
use Rattle.listing.proofs.DecimalLaws.{length_digits, length-one, length_two}
use Rattle.listing.proofs.PieceLaws.{length-lines}

pub part-within : (s : List ℕ) (at size : ℕ) → length (part s at size) ≤ size
part-within s at size = rw (length-take size (drop at s)) (omega arith)

pub length-counts : (r : Rights) → r.hosts ≤ 32 → r.interfaces ≤ 8 → length (counts_line r) ≤ 22
unfolding counts_line
length-counts r h m =
    simp length-append (omega (arith, length_two r.hosts (omega arith), length-one r.interfaces (omega arith)))

module _ (r : Rights) (names : List ℕ) (i : ℕ) where
  pub length-host : i < 32 → get_or r.sizes i 0 ≤ 256 → length (host_line r names i) ≤ 277
  unfolding host_line
  length-host h s =
      simp length-append
      (omega (arith, length_two (i + 1) (omega arith), length_digits 5 (get_or r.groups i 0), part-within names (256 * i) (get_or r.sizes i 0)))

  pub length-interface : i < 8 → get_or r.commands i 0 < 100 → get_or r.entries i 0 < 100 → get_or r.spans i 0 ≤ 256
      → length (interface_line r names i) ≤ 292
  unfolding interface_line
  length-interface h c e s =
      simp length-append
      (omega (
        arith,
        length-one (i + 1) (omega arith),
        length_two (get_or r.commands i 0) c,
        length_two (get_or r.entries i 0) e,
        part-within names (256 * i) (get_or r.spans i 0),
      ))

-- how many lines there are of a kind: 0 the hosts', any other the interfaces'
unfoldable pub line_count : ℕ → Rights → ℕ
line_count zero r = r.hosts
line_count (suc w) r = r.interfaces

-- the lines of a sound state, and its listing
module _ (r : Rights) (sound : sound_rights r ≡ true) where
  pub count_most : (what : ℕ) → line_count what r ≤ 32
  unfolding line_count
  count_most zero = (sound-facts r sound).hosts
  count_most (suc w) = let f = sound-facts r sound in omega (arith, f.interfaces)

  pub host-most : (names : List ℕ) (j : ℕ) → j < r.hosts → length (host_line r names j) ≤ 277
  host-most names j h = let f = sound-facts r sound in length-host r names j (omega (arith, f.hosts)) (f.size j h).1

  pub interface-most : (labels : List ℕ) (j : ℕ) → j < r.interfaces → length (interface_line r labels j) ≤ 292
  interface-most labels j h =
      let f = sound-facts r sound in
      let g = f.interface j h in
      length-interface r labels j (omega (arith, f.interfaces)) (omega arith) (omega arith) (omega arith)

  pub length-hosts : (names : List ℕ) (k : ℕ) → k ≤ r.hosts → length (lines_from (host_line r names) 0 k) ≤ k * 277
  length-hosts names k h = length-lines (host_line r names) 277 0 k (λ j l. host-most names j (omega arith))

  pub length-interfaces : (labels : List ℕ) (k : ℕ) → k ≤ r.interfaces → length (lines_from (interface_line r labels) 0 k) ≤ k * 292
  length-interfaces labels k h = length-lines (interface_line r labels) 292 0 k (λ j l. interface-most labels j (omega arith))

pub length-listing : (r : Rights) (names labels : List ℕ) → sound_rights r ≡ true → length (listing_of r names labels) ≤ 11222
unfolding listing_of
length-listing r names labels sound =
    let f = sound-facts r sound in
    simp length-append
    (omega (
      arith,
      length-counts r f.hosts f.interfaces,
      length-hosts r sound names r.hosts (omega arith),
      length-interfaces r sound labels r.interfaces (omega arith),
    ))
