-- Document 01, "The book": where the fields of a book b stand. Rows, hosts, interfaces and entries are counted from 0 here.
use Rattle.std.specs.Prelude.{ℕ, zero, suc, ◌+◌, ◌*◌, ◌-◌, List, eqb}
use Rattle.octets.specs.Checks.{pick}
use Rattle.octets.specs.Little.{number}
use Rattle.octets.specs.Room.{part}

-- "Head, 8 bytes: format 1 (2), rows n (2), total length (4)"
unfoldable pub format : List ℕ → ℕ
format b = number (part b 0 2)

unfoldable pub rows : List ℕ → ℕ
rows b = number (part b 2 2)

unfoldable pub total : List ℕ → ℕ
total b = number (part b 4 4)

-- "n rows of 12: kind (2; 1 host, 2 interface), id (2), start (4), length (4)"
abbrev pub row : ℕ → ℕ
row i = 8 + 12 * i

unfoldable pub kind : List ℕ → ℕ → ℕ
kind b i = number (part b (row i) 2)

unfoldable pub id : List ℕ → ℕ → ℕ
id b i = number (part b (row i + 2) 2)

unfoldable pub start : List ℕ → ℕ → ℕ
start b i = number (part b (row i + 4) 4)

unfoldable pub size : List ℕ → ℕ → ℕ
size b i = number (part b (row i + 8) 4)

-- how many of the rows before row i are hosts
unfoldable pub hosts_before : List ℕ → ℕ → ℕ
hosts_before b zero = 0
hosts_before b (suc i) = hosts_before b i + pick (eqb (kind b i) 1) 1 0

-- "The first body starts at 8+12n, each next where the last ended"
unfoldable pub expected : List ℕ → ℕ → ℕ
expected b zero = 8 + 12 * rows b
expected b (suc i) = start b i + size b i

-- "Host body: group (2; 0 is none), name"
unfoldable pub group : List ℕ → ℕ → ℕ
group b i = number (part b (start b i) 2)

-- "Interface body: master secret (16), command count (2; 1 to 64), entry count e (2; 1 to 16), e entries of group (2; 0 is anyone) and
-- permitted word (8), name"
unfoldable pub secret : List ℕ → ℕ → List ℕ
secret b i = part b (start b i) 16

unfoldable pub commands : List ℕ → ℕ → ℕ
commands b i = number (part b (start b i + 16) 2)

unfoldable pub entries : List ℕ → ℕ → ℕ
entries b i = number (part b (start b i + 18) 2)

unfoldable pub owner : List ℕ → ℕ → ℕ → ℕ
owner b i j = number (part b (start b i + 20 + 10 * j) 2)

unfoldable pub word : List ℕ → ℕ → ℕ → ℕ
word b i j = number (part b (start b i + 22 + 10 * j) 8)

-- what stands before the name in body i
unfoldable pub lead : List ℕ → ℕ → ℕ
lead b i = pick (eqb (kind b i) 1) 2 (20 + 10 * entries b i)

unfoldable pub name_start : List ℕ → ℕ → ℕ
name_start b i = start b i + lead b i

unfoldable pub name : List ℕ → ℕ → List ℕ
name b i = part b (name_start b i) (size b i - lead b i)
