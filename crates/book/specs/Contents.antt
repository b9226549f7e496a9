-- What a good book says, apart from its bytes: hosts and interfaces as lists (document 01, "The book").
use Rattle.std.specs.Prelude.{ℕ, zero, suc, ◌-◌, List, [], ◌∷◌}
use Rattle.layout.specs.Layout.{rows, hosts_before, group, secret, commands, entries, owner, word, name}

pub record Host : Type 0 where
  pub group : ℕ
  pub name : List ℕ

pub record Entry : Type 0 where
  pub owner : ℕ
  pub word : ℕ

pub record Interface : Type 0 where
  pub secret : List ℕ
  pub commands : ℕ
  pub entries : List Entry
  pub name : List ℕ

pub record Contents : Type 0 where
  pub hosts : List Host
  pub interfaces : List Interface

-- m hosts from row i on
unfoldable pub hosts_from : List ℕ → ℕ → ℕ → List Host
hosts_from b i zero = []
hosts_from b i (suc m) = record { group = group b i; name = name b i } ∷ hosts_from b (suc i) m

-- m entries of row i, from entry j on
unfoldable pub entries_from : List ℕ → ℕ → ℕ → ℕ → List Entry
entries_from b i j zero = []
entries_from b i j (suc m) = record { owner = owner b i j; word = word b i j } ∷ entries_from b i (suc j) m

-- m interfaces from row i on
unfoldable pub interfaces_from : List ℕ → ℕ → ℕ → List Interface
interfaces_from b i zero = []
interfaces_from b i (suc m) =
    record { secret = secret b i; commands = commands b i; entries = entries_from b i 0 (entries b i); name = name b i }
    ∷ interfaces_from b (suc i) m

-- how many hosts a book has; they come first
unfoldable pub host_count : List ℕ → ℕ
host_count b = hosts_before b (rows b)

unfoldable pub contents_of : List ℕ → Contents
contents_of b = record { hosts = hosts_from b 0 (host_count b); interfaces = interfaces_from b (host_count b) (rows b - host_count b) }
