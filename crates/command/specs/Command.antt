-- Document 01: the check of a command, in its own order. "Command: 39, then 1 to 19." The packet p and the length of the lent room are judged
-- against the view v of the host that the open part names; then the text, deciphered with `ciph`, against the right that it names.
use Rattle.std.specs.Prelude.{ℕ, ◌-◌, not, ◌||◌, List, [], ◌∷◌, eqb, leb, ltb, length}
use Rattle.octets.specs.Checks.{Row, ◌when◌, refusal, is_zero, ◌then◌}
use Rattle.octets.specs.Room.{number_at}
use Rattle.octets.specs.Same.{same}
use Rattle.aes.specs.Cipher.{cipher}
use Rattle.gcm.specs.Gctr.{Out}
use Rattle.capability.specs.Chain.{right_secret}
use Rattle.capability.specs.Rights.{permitted}
use Rattle.state.specs.declared.Rights.{Rights}
use Rattle.view.specs.Counted.{no_such}
use Rattle.view.specs.Phases.{is_open, fresh}
use Rattle.view.specs.declared.View.{View}
use Rattle.view.specs.declared.Right.{Right}
use Rattle.view.specs.Right.{right_of}
use Rattle.fields.specs.declared.Order.{Order}
use Rattle.fields.specs.Command.{client_of, open_zeros, additional, vector_of, tag_in, encrypted, order_of}
use Rattle.packet.specs.Sealed.{right_tag, text_of}

-- AES under the connection's key
abbrev pub ciph_of : View → List ℕ → List ℕ
ciph_of v = cipher v.held.key

-- the packet's open part, the connection and the room
abbrev pub outer_rows : View → List ℕ → ℕ → List Row
outer_rows v p room =
    39 when not v.good
    ∷ 1 when ltb (length p) 96
    ∷ 2 when ltb 16480 (length p)
    ∷ 3 when not (is_zero (open_zeros p))
    ∷ 4 when no_such (client_of p) v.hosts
    ∷ 5 when leb 128 (number_at p 4 1)
    ∷ 6 when not (is_open v.held.phase)
    ∷ 7 when ltb room (length p - 96)
    ∷ []

unfoldable pub outer : View → List ℕ → ℕ → ℕ
outer v p room = refusal (outer_rows v p room)

-- the tag
unfoldable pub tagged : (List ℕ → List ℕ) → List ℕ → ℕ
tagged ciph p = refusal (8 when not (right_tag ciph (additional p) (vector_of p) (tag_in p) (encrypted p)) ∷ [])

-- the text, and what it says
unfoldable pub text : (List ℕ → List ℕ) → List ℕ → Out
text ciph p = text_of ciph (vector_of p) (encrypted p)

unfoldable pub order : (List ℕ → List ℕ) → List ℕ → Order
order ciph p = order_of (text ciph p).bytes

-- the order o, in a packet of client c with n bytes after the fields, against the connection
abbrev pub inner_rows : View → ℕ → ℕ → Order → List Row
inner_rows v c n o =
    9 when not (eqb o.client c)
    ∷ 10 when not (is_zero o.zeros)
    ∷ 11 when not (eqb o.length n)
    ∷ 12 when not (fresh v.held.phase o.sequence)
    ∷ 13 when not (is_zero o.group || eqb o.group v.group)
    ∷ 14 when no_such o.interface v.interfaces
    ∷ []

unfoldable pub inner : View → ℕ → ℕ → Order → ℕ
inner v c n o = refusal (inner_rows v c n o)

-- the order against the right that it names
abbrev pub right_rows : Right → Order → List Row
right_rows f o =
    15 when no_such o.capability f.entries
    ∷ 16 when not (is_zero f.owner || eqb f.owner o.group)
    ∷ 17 when leb f.commands o.command
    ∷ 18 when not (permitted o.command f.word o.words)
    ∷ []

unfoldable pub rightful : Right → Order → ℕ
rightful f o = refusal (right_rows f o)

-- the secret at the end of the chain
unfoldable pub genuine : Right → Order → ℕ
genuine f o = refusal (19 when not (same o.secret (right_secret f.secret o.capability o.words)) ∷ [])

-- the right that an order names
abbrev pub named : Rights → Order → Right
named r o = right_of r o.interface o.capability

-- the text's checks but the last, 9 to 18
unfoldable pub judged : View → Rights → List ℕ → Order → ℕ
judged v r p o = inner v (client_of p) (length p - 96) o then rightful (named r o) o

-- "A command opens when it gets past 8.": 0 where it opens
unfoldable pub opening : View → List ℕ → ℕ → ℕ
opening v p room = outer v p room then tagged (ciph_of v) p

-- the text's checks, 9 to 19
unfoldable pub weighed : View → Rights → List ℕ → Order → ℕ
weighed v r p o = judged v r p o then genuine (named r o) o

unfoldable pub command_refusal : View → Rights → List ℕ → ℕ → ℕ
command_refusal v r p room = opening v p room then weighed v r p (order (ciph_of v) p)
