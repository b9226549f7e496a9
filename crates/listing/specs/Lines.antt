-- Document 01, "Samples": "A program reads a book from standard input and lists it: counts, then host (id, group, name) and interface lines (id,
-- commands, entries, name), numbers in decimal. Each line ends with a newline." A refused book gives one line, `refused N at M`.
use Rattle.std.specs.Prelude.{ℕ, zero, suc, ◌+◌, ◌*◌, Bool, not, ◌&&◌, List, [], ◌∷◌, ◌++◌, leb, ltb, length, get_or}
use Rattle.octets.specs.Checks.{pick, is_zero, ◌when◌, refusal}
use Rattle.octets.specs.Room.{part, placed}
use Rattle.state.specs.declared.Rights.{Rights}
use Rattle.state.specs.Sound.{sound_rights}
use Rattle.listing.specs.Decimal.{decimal}

-- "hosts ", " interfaces ", "host ", " group ", "interface ", " commands ", " entries ", "refused ", " at "
abbrev pub hosts_text : List ℕ
hosts_text = 104 ∷ 111 ∷ 115 ∷ 116 ∷ 115 ∷ 32 ∷ []

abbrev pub interfaces_text : List ℕ
interfaces_text = 32 ∷ 105 ∷ 110 ∷ 116 ∷ 101 ∷ 114 ∷ 102 ∷ 97 ∷ 99 ∷ 101 ∷ 115 ∷ 32 ∷ []

abbrev pub host_text : List ℕ
host_text = 104 ∷ 111 ∷ 115 ∷ 116 ∷ 32 ∷ []

abbrev pub group_text : List ℕ
group_text = 32 ∷ 103 ∷ 114 ∷ 111 ∷ 117 ∷ 112 ∷ 32 ∷ []

abbrev pub interface_text : List ℕ
interface_text = 105 ∷ 110 ∷ 116 ∷ 101 ∷ 114 ∷ 102 ∷ 97 ∷ 99 ∷ 101 ∷ 32 ∷ []

abbrev pub commands_text : List ℕ
commands_text = 32 ∷ 99 ∷ 111 ∷ 109 ∷ 109 ∷ 97 ∷ 110 ∷ 100 ∷ 115 ∷ 32 ∷ []

abbrev pub entries_text : List ℕ
entries_text = 32 ∷ 101 ∷ 110 ∷ 116 ∷ 114 ∷ 105 ∷ 101 ∷ 115 ∷ 32 ∷ []

abbrev pub refused_text : List ℕ
refused_text = 114 ∷ 101 ∷ 102 ∷ 117 ∷ 115 ∷ 101 ∷ 100 ∷ 32 ∷ []

abbrev pub at_text : List ℕ
at_text = 32 ∷ 97 ∷ 116 ∷ 32 ∷ []

abbrev pub space : List ℕ
space = 32 ∷ []

abbrev pub newline : List ℕ
newline = 10 ∷ []

-- a text with a number after it
abbrev pub labelled : List ℕ → ℕ → List ℕ
labelled t n = t ++ decimal n

-- a name at the end of a line
abbrev pub ending : List ℕ → List ℕ
ending name = space ++ name ++ newline

-- "hosts N interfaces M"
unfoldable pub counts_line : Rights → List ℕ
counts_line r = labelled hosts_text r.hosts ++ labelled interfaces_text r.interfaces ++ newline

-- "host ID group G NAME", of host i
unfoldable pub host_line : Rights → List ℕ → ℕ → List ℕ
host_line r names i =
    labelled host_text (i + 1) ++ labelled group_text (get_or r.groups i 0) ++ ending (part names (256 * i) (get_or r.sizes i 0))

-- "interface ID commands C entries E NAME", of interface i
unfoldable pub interface_line : Rights → List ℕ → ℕ → List ℕ
interface_line r labels i =
    labelled interface_text (i + 1) ++ labelled commands_text (get_or r.commands i 0) ++ labelled entries_text (get_or r.entries i 0)
    ++ ending (part labels (256 * i) (get_or r.spans i 0))

-- m lines from line i on
unfoldable pub lines_from : (ℕ → List ℕ) → ℕ → ℕ → List ℕ
lines_from f i zero = []
lines_from f i (suc m) = f i ++ lines_from f (suc i) m

-- the listing of a state
unfoldable pub listing_of : Rights → List ℕ → List ℕ → List ℕ
listing_of r names labels =
    counts_line r ++ lines_from (host_line r names) 0 r.hosts ++ lines_from (interface_line r labels) 0 r.interfaces

-- "refused N at M"
unfoldable pub refused_line : ℕ → ℕ → List ℕ
refused_line n p = labelled refused_text n ++ labelled at_text p ++ newline

-- a room of this size holds the listing of every sound state: 22 bytes of counts, 32 host lines of at most 277 and 8 interface lines of at most
-- 292 make 11,222
abbrev pub longest : ℕ
longest = 11264

-- 39 for a state that isn't sound, 7 for a room below that size
unfoldable pub render_refusal : Rights → List ℕ → ℕ
render_refusal r room = refusal (39 when not (sound_rights r) ∷ 7 when ltb (length room) longest ∷ [])

unfoldable pub render_length : Rights → List ℕ → List ℕ → List ℕ → ℕ
render_length r names labels room = pick (is_zero (render_refusal r room)) (length (listing_of r names labels)) 0

unfoldable pub render_room : Rights → List ℕ → List ℕ → List ℕ → List ℕ
render_room r names labels room = pick (is_zero (render_refusal r room)) (placed room 0 (listing_of r names labels)) room

-- a refusal's line fits a room of 24 bytes, if its place is below 65,536
unfoldable pub refused_fits : ℕ → List ℕ → Bool
refused_fits p room = leb p 65535 && leb 24 (length room)

unfoldable pub refused_length : ℕ → ℕ → List ℕ → ℕ
refused_length n p room = pick (refused_fits p room) (length (refused_line n p)) 0

unfoldable pub refused_room : ℕ → ℕ → List ℕ → List ℕ
refused_room n p room = pick (refused_fits p room) (placed room 0 (refused_line n p)) room
