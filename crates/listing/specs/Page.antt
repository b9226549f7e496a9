-- A page: a room and how far it holds text.
use Rattle.std.specs.Prelude.{ℕ, ◌+◌, ◌≡◌, ◌≤◌, List, length}
use Rattle.listing.specs.declared.text.Page.{Page}
use Rattle.listing.specs.Wrote.{Wrote}

-- n bytes more fit the page
abbrev pub HasRoom : Page → ℕ → Type 0
HasRoom p n = p.at + n ≤ length p.room.now

-- x was put on the page p, where there is room for it, which makes it q, a page of the same room
pub record Adds (p : Page) (x : List ℕ) (q : Page) : Type 0 where
  pub wrote : Wrote p.room.now p.at x q.at q.room.now
  pub within : HasRoom q 0
  pub size : length q.room.now ≡ length p.room.now
  pub same : q.room.ghost_name ≡ p.room.ghost_name
