-- Pages: two pieces of text that are put one after the other are put as their joined text, and how much room is left.
use Rattle.std.proofs.Common.{◌≡◌, ℕ, ◌+◌, ◌≤◌, List, [], ◌++◌, length, refl, ◌∙◌, arith}
use Rattle.octets.specs.Room.{placed}
use Rattle.listing.specs.declared.text.Page.{Page}
use Rattle.listing.specs.Page.{HasRoom, Adds}
use Rattle.listing.proofs.PieceLaws.{wrote_none, wrote_then}

pub adds-left : {p q : Page} {x : List ℕ} (m n : ℕ) → Adds p x q → HasRoom p m → length x + n ≤ m → HasRoom q n
adds-left m n a h l = omega (arith, a.wrote.0, a.size)

pub adds_none : (p : Page) → HasRoom p 0 → Adds p [] p
adds_none p h = record { wrote = wrote_none p.room.now p.at (omega arith); within = h; size = refl; same = refl }

pub adds_then : {p q r : Page} {x y : List ℕ} → Adds p x q → Adds q y r → Adds p (x ++ y) r
adds_then {p} {q} {r} {x} {y} a b = record {
  wrote = wrote_then p.room.now p.at x y a.wrote b.wrote (omega (arith, a.size, b.size, b.within));
  within = b.within;
  size = b.size ∙ a.size;
  same = b.same ∙ a.same;
}

pub adds_as : {p q : Page} {x y : List ℕ} → Adds p x q → x ≡ y → Adds p y q
adds_as a h = rw h at a

-- what the page's room holds
pub adds_out : {p q : Page} {x out : List ℕ} → Adds p x q → out ≡ q.room.now → out ≡ placed p.room.now p.at x
adds_out a h = h ∙ a.wrote.1
