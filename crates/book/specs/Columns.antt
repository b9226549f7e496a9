-- What the loader's loops collect from a book's rows and entries: a value of each of m of them, from i on. And what they ask of a book
-- with h hosts and m interfaces after them.
use Rattle.std.specs.Prelude.{ℕ, zero, suc, ◌+◌, ◌<◌, ◌≤◌, ◌≡◌, List, [], ◌∷◌, length}
use Rattle.std.specs.Borrow.{Bor}
use Rattle.layout.specs.Layout.{name, entries, owner, word}
use Rattle.book.specs.Contents.{Contents, hosts_from, interfaces_from}

module _ {A : Type 0} where
  unfoldable pub collect : (ℕ → A) → ℕ → ℕ → List A
  collect f i zero = []
  collect f i (suc m) = f i ∷ collect f (suc i) m

-- none of those m is longer than w
abbrev pub Short : ℕ → (ℕ → List ℕ) → ℕ → ℕ → Type 0
Short w f i m = (k : ℕ) → k < m → length (f (i + k)) ≤ w

-- what f gives at each of those m rows is g's value there
abbrev pub Gives : (ℕ → ℕ → Type 0) → (ℕ → ℕ) → ℕ → ℕ → Type 0
Gives post g from m = (k r : ℕ) → k < m → post (from + k) r → r ≡ g (from + k)

abbrev pub GivesBytes : (ℕ → Bor (List ℕ) → Type 0) → (ℕ → List ℕ) → ℕ → ℕ → Type 0
GivesBytes post g from m = (k : ℕ) (r : Bor (List ℕ)) → k < m → post (from + k) r → r.now ≡ g (from + k)

abbrev pub name_length : List ℕ → ℕ → ℕ
name_length b i = length (name b i)

-- the words and the owners of row i
abbrev pub words : List ℕ → ℕ → List ℕ
words b i = collect (word b i) 0 (entries b i)

abbrev pub owners : List ℕ → ℕ → List ℕ
owners b i = collect (owner b i) 0 (entries b i)

abbrev pub contents : List ℕ → ℕ → ℕ → Contents
contents b h m = record { hosts = hosts_from b 0 h; interfaces = interfaces_from b h m }

-- all has room in the arrays
pub record InRoom (b : List ℕ) (h m : ℕ) : Type 0 where
  pub hosts : h ≤ 32
  pub interfaces : m ≤ 8
  pub names : Short 256 (name b) 0 h
  pub labels : Short 256 (name b) h m
  pub entries : (k : ℕ) → k < m → entries b (h + k) ≤ 16
