-- Document 01, "Calls about a machine": which calls of a series are about a machine, what it is told, and which interfaces its commands name.
use Rattle.std.specs.Prelude.{◌≡◌, ◌⊎◌, Bool, true, false, List, [], ◌∷◌, ℕ, ◌-◌, eqb, length}
use Rattle.octets.specs.Same.{same}
use Rattle.state.specs.declared.State.{State}
use Rattle.state.specs.declared.transitions.Record.{Record}
use Rattle.state.specs.Flat.{record_of}
use Rattle.fields.specs.Command.{client_of}
use Rattle.gateway.specs.Request.{asked}
use Rattle.promises.specs.Step.{Call, request, proof, command, reply, close, revoke, Said, answer, next}
use Rattle.promises.specs.Stands.{Names}
use Rattle.promises.specs.Facts.{text_in, Opens}
use Rattle.promises.specs.Places.{interface_said}

-- a machine, by its name and its number: "The client ID is the host's id in the book."
pub record Machine : Type 0 where
  pub name : List ℕ
  pub number : ℕ

-- "About A: a request whose name field is A's name; a proof, reply or close with A's number; a command packet with A's client ID in its open part."
-- The name field is all that stands after byte 20; where the length field differs, 22 refuses.
abbrev pub about : Machine → Call → Bool
about A (request p f room) = same (asked p) A.name
about A (proof h p room) = eqb h A.number
about A (command p room) = eqb (client_of p) A.number
about A (reply h n pay room) = eqb h A.number
about A (close h) = eqb h A.number
about A (revoke i e w) = false

-- those, and the revocations on chosen interfaces
abbrev pub mine : Machine → (ℕ → Bool) → Call → Bool
mine A chosen (request p f room) = about A (request p f room)
mine A chosen (proof h p room) = about A (proof h p room)
mine A chosen (command p room) = about A (command p room)
mine A chosen (reply h n pay room) = about A (reply h n pay room)
mine A chosen (close h) = about A (close h)
mine A chosen (revoke i e w) = chosen i

-- the elements of a list that pass a test, in their order
module _ {T : Type 0} where
  abbrev pub keep_if : Bool → T → List T → List T
  keep_if true x xs = x ∷ xs
  keep_if false x xs = xs

  abbrev pub keep : (T → Bool) → List T → List T
  keep f [] = []
  keep f (x ∷ xs) = keep_if (f x) x (keep f xs)

-- "A's answers", each with A's record after the call
pub record Told : Type 0 where
  pub said : Said
  pub left : Record

abbrev pub told : Machine → State → Call → Told
told A s c = record { said = answer s c; left = record_of (next s c).records (A.number - 1) }

-- call by call, over a series that starts in s
abbrev pub heard : Machine → State → List Call → List Told
heard A s [] = []
heard A s (c ∷ cs) = keep_if (about A c) (told A s c) (heard A (next s c) cs)

-- a command of A's that opens names a chosen interface or a number that no interface has
abbrev pub Named : Machine → (ℕ → Bool) → State → Call → Type 0
Named A chosen s (request p f room) = Unit
Named A chosen s (proof h p room) = Unit
Named A chosen s (command p room) =
    client_of p ≡ A.number → Opens s p (length room)
    → (chosen (interface_said (text_in s p)) ≡ true) ⊎ (¬ Names (interface_said (text_in s p)) s.rights.interfaces)
Named A chosen s (reply h n pay room) = Unit
Named A chosen s (close h) = Unit
Named A chosen s (revoke i e w) = Unit

-- each such command of a series that starts in s
abbrev pub AllNamed : Machine → (ℕ → Bool) → State → List Call → Type 0
AllNamed A chosen s [] = Unit
AllNamed A chosen s (c ∷ cs) = Named A chosen s c × AllNamed A chosen (next s c) cs
