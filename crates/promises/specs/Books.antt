-- Demand 3, "over two loads of good books (same hosts, same number of interfaces, same contents for the chosen ones)".
use Rattle.std.specs.Prelude.{◌≡◌, Bool, true, List, [], ℕ, ◌-◌, length, get_or}
use Rattle.book.specs.Contents.{Host, Interface, contents_of}
use Rattle.book.specs.States.{loaded}
use Rattle.promises.specs.Stands.{Names}
use Rattle.promises.specs.Told.{Machine}

-- hosts and interfaces of a book by their ids, which count from 1; asked only where the book has one
abbrev pub host_in : List ℕ → ℕ → Host
host_in book i = get_or (contents_of book).hosts (i - 1) (record { group = 0; name = [] })

abbrev pub interface_in : List ℕ → ℕ → Interface
interface_in book i = get_or (contents_of book).interfaces (i - 1) (record { secret = []; commands = 0; entries = []; name = [] })

-- A is a host of the book
pub record InBook (A : Machine) (book : List ℕ) : Type 0 where
  pub number : Names A.number (length (contents_of book).hosts)
  pub name : (host_in book A.number).name ≡ A.name

-- the same master secret, command count and entries
pub record SameContents (x y : Interface) : Type 0 where
  pub secret : x.secret ≡ y.secret
  pub commands : x.commands ≡ y.commands
  pub entries : x.entries ≡ y.entries

pub record AlikeBooks (chosen : ℕ → Bool) (x y : List ℕ) : Type 0 where
  pub first : (loaded x).number ≡ 0
  pub second : (loaded y).number ≡ 0
  pub hosts : (contents_of x).hosts ≡ (contents_of y).hosts
  pub interfaces : length (contents_of x).interfaces ≡ length (contents_of y).interfaces
  pub contents : (i : ℕ) → chosen i ≡ true → Names i (length (contents_of x).interfaces) → SameContents (interface_in x i) (interface_in y i)
