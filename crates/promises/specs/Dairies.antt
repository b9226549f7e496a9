-- Two dairies, for the promises that are shown by an example. In both are a panel, a scale and a filler; the second interface, a mixer, has another
-- secret, another command count and other rights in each.
use Rattle.std.specs.Prelude.{◌≡◌, ◌≢◌, Bool, List, [], ◌∷◌, ◌++◌, map, ℕ, eqb, replicate}
use Rattle.octets.specs.Little.{octets}
use Rattle.aes.specs.Cipher.{cipher}
use Rattle.capability.specs.Bytes.{secret_of, capability}
use Rattle.capability.specs.Calls.{issued, narrowing}
use Rattle.capability.specs.Chain.{all_ones}
use Rattle.state.specs.declared.State.{State}
use Rattle.client.specs.Seal.{command_bytes}
use Rattle.promises.specs.Ready.{Parts}
use Rattle.promises.specs.Series.{after}
use Rattle.promises.specs.Step.{Call, request, proof, command, reply, close, revoke, answer}
use Rattle.book.specs.States.{loaded}
use Rattle.promises.specs.Books.{interface_in, InBook, AlikeBooks}
use Rattle.promises.specs.Told.{Machine, mine, keep, Told, heard, AllNamed}

-- in letters
abbrev pub panel : List ℕ
panel = 112 ∷ 97 ∷ 110 ∷ 101 ∷ 108 ∷ []

abbrev scale : List ℕ
scale = 115 ∷ 99 ∷ 97 ∷ 108 ∷ 101 ∷ []

abbrev filler : List ℕ
filler = 102 ∷ 105 ∷ 108 ∷ 108 ∷ 101 ∷ 114 ∷ []

abbrev mixer : List ℕ
mixer = 109 ∷ 105 ∷ 120 ∷ 101 ∷ 114 ∷ []

-- a row of a book: kind, id, start and length
abbrev row : ℕ → ℕ → ℕ → ℕ → List ℕ
row kind id start size = octets 2 kind ++ octets 2 id ++ octets 4 start ++ octets 4 size

abbrev host : ℕ → List ℕ → List ℕ
host group name = octets 2 group ++ name

-- an interface with one entry, of that group and word
abbrev interface : List ℕ → ℕ → ℕ → ℕ → List ℕ → List ℕ
interface secret commands group word name = secret ++ octets 2 commands ++ octets 2 1 ++ octets 2 group ++ octets 8 word ++ name

-- the filler's master secret
abbrev pub master : List ℕ
master = replicate 16 3

-- the book of a dairy with that mixer
unfoldable pub dairy : List ℕ → ℕ → ℕ → List ℕ
dairy secret commands word =
    octets 2 1 ++ octets 2 4 ++ octets 4 141
    ++ row 1 1 56 7 ++ row 1 2 63 7 ++ row 2 1 70 36 ++ row 2 2 106 35
    ++ host 1 panel ++ host 0 scale
    ++ interface master 4 1 15 filler ++ interface secret commands 0 word mixer

abbrev pub north : List ℕ
north = dairy (replicate 16 7) 3 7

abbrev pub south : List ℕ
south = dairy (replicate 16 9) 8 160

-- the panel, and the one interface that is chosen: the filler
abbrev pub the_panel : Machine
the_panel = record { name = panel; number = 1 }

abbrev pub the_filler : ℕ → Bool
the_filler i = eqb i 1

-- ---- the panel's calls

abbrev pub fresh : List ℕ
fresh = replicate 16 21

abbrev pub third : List ℕ
third = replicate 16 33

abbrev pub room : List ℕ
room = replicate 48 0

-- the key of its connection
unfoldable pub panel_key : List ℕ
panel_key = cipher fresh third

abbrev pub greeting : List ℕ
greeting = 1 ∷ 0 ∷ 5 ∷ 0 ∷ replicate 16 5 ++ panel

abbrev pub hello : Call
hello = request greeting fresh room

abbrev pub proven : Call
proven = proof 1 (fresh ++ third) room

-- command 2 of interface i with number n, by a capability
abbrev pub asks : ℕ → ℕ → List ℕ → Parts
asks n i capability = record {
  ask = record { client = 1; sequence = n; group = 1; interface = i; command = 2 };
  vector = replicate 12 n;
  capability = capability;
  payload = 10 ∷ 20 ∷ 30 ∷ [];
}

abbrev pub sends : Parts → Call
sends b = command (command_bytes panel_key b.vector b.ask b.capability b.payload) room

-- the capability of the filler's entry, and the one that is narrowed to commands 2 and 3
abbrev pub whole : List ℕ
whole = issued master 1

abbrev pub narrower : List ℕ
narrower = narrowing whole 12

-- the filler's command 2 with number 1; that of interface 9, which there isn't, with number 2; and the filler's again, with number 2
abbrev pub fills : Call
fills = sends (asks 1 1 narrower)

abbrev pub strays : Call
strays = sends (asks 2 9 narrower)

abbrev pub fills_again : Call
fills_again = sends (asks 2 1 narrower)

-- the filler's by the capability as it was issued; and by one that claims a second narrowing, by 6, with the secret of the first alone
abbrev pub fills_whole : Call
fills_whole = sends (asks 1 1 whole)

abbrev pub claimed : List ℕ
claimed = capability 1 (12 ∷ 6 ∷ all_ones ∷ all_ones ∷ []) (secret_of narrower)

abbrev pub claims : Call
claims = sends (asks 1 1 claimed)

-- command 2 of the filler is taken from its entry
abbrev pub takes : Call
takes = revoke 1 1 11

-- the north dairy with the panel's connection open
abbrev pub plant : State
plant = after (loaded north).state (hello ∷ proven ∷ [])

-- ---- two days, with others' calls in between

abbrev pub scale_asks : Call
scale_asks = request (1 ∷ 0 ∷ 5 ∷ 0 ∷ replicate 16 6 ++ scale) (replicate 16 8) room

abbrev pub mixer_loses : Call
mixer_loses = revoke 2 1 3

abbrev pub north_day : List Call
north_day = hello ∷ scale_asks ∷ proven ∷ fills ∷ mixer_loses ∷ strays ∷ takes ∷ proof 2 (replicate 32 8) room ∷ fills_again ∷ []

abbrev pub south_day : List Call
south_day =
    close 2 ∷ hello ∷ proven ∷ revoke 2 1 32 ∷ fills ∷ strays ∷ reply 2 1 [] room ∷ takes ∷ fills_again ∷ close 2 ∷ []

-- Demand 3, "And it isn't empty: a computed example, two dairies whose other interfaces have other secrets and rights, with series that meet every
-- hypothesis and in which A's commands are accepted, refused by 14 and by 18." The panel's five answers are those of its request, its proof and its
-- three commands; the days differ, and others are accepted too: the scale's request, and a revocation on the mixer.
pub record NotEmpty : Type 0 where
  pub host : InBook the_panel north
  pub books : AlikeBooks the_filler north south
  pub secrets : (interface_in north 2).secret ≢ (interface_in south 2).secret
  pub rights : (interface_in north 2).entries ≢ (interface_in south 2).entries
  pub calls : keep (mine the_panel the_filler) north_day ≡ keep (mine the_panel the_filler) south_day
  pub named : AllNamed the_panel the_filler (loaded north).state north_day
  pub numbers : map (λ (t : Told). t.said.number) (heard the_panel (loaded north).state north_day) ≡ 0 ∷ 0 ∷ 0 ∷ 14 ∷ 18 ∷ []
  pub days : north_day ≢ south_day
  pub asked : (answer (after (loaded north).state (hello ∷ [])) scale_asks).number ≡ 0
  pub revoked : (answer (after (loaded north).state (hello ∷ scale_asks ∷ proven ∷ fills ∷ [])) mixer_loses).number ≡ 0
