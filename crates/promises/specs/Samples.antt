-- Document 01, "Samples on both sides": P1 to P10, as one table.
use Rattle.std.specs.Prelude.{ℕ, zero, suc, ◌+◌, ◌^◌, ◌≤◌, ◌<◌, ◌≡◌, Bool, true, false, List, [], ◌∷◌, ◌++◌, length, replicate}
use Rattle.octets.specs.Checks.{pick}
use Rattle.octets.specs.Little.{octets}
use Rattle.capability.specs.Chain.{all_ones, chain_blocks}
use Rattle.capability.specs.Rights.{permitted}
use Rattle.capability.specs.Bytes.{id_of, four_at}
use Rattle.capability.specs.Calls.{issued, narrow_refusal, narrowing}
use Rattle.state.specs.declared.State.{State}
use Rattle.state.specs.declared.transitions.Phase.TheVariants.{Open}
use Rattle.grammar.specs.Faults.{Fault, fault, none}
use Rattle.grammar.specs.Checks.{fault_of}
use Rattle.view.specs.Phases.{fresh}
use Rattle.client.specs.OpenReply.{opened}
use Rattle.promises.specs.Counts.{words_in}
use Rattle.promises.specs.Places.{word_of}
use Rattle.promises.specs.Ready.{Parts, packet_of, WellFormed, Connects, Finds, InRange}
use Rattle.promises.specs.Step.{command, reply, answer}
use Rattle.promises.specs.Typed.{Typed}

-- the commands that are permitted, of the n from c on
unfoldable pub permitted_from : ℕ → ℕ → ℕ → List ℕ → List ℕ
permitted_from c zero entry words = []
permitted_from c (suc n) entry words = pick (permitted c entry words) (c ∷ []) [] ++ permitted_from (suc c) n entry words

-- the numbers of narrowings one after the other, from capability c on
unfoldable pub narrow_numbers : List ℕ → List ℕ → List ℕ → List ℕ
narrow_numbers c [] room = []
narrow_numbers c (w ∷ ws) room = narrow_refusal c w room ∷ narrow_numbers (narrowing c w) ws room

-- the book of one host, in no group, with that name: the name stands from place 22 on
abbrev pub book_of : List ℕ → List ℕ
book_of name =
    octets 2 1 ++ octets 2 1 ++ octets 4 (22 + length name)
    ++ octets 2 1 ++ octets 2 1 ++ octets 4 20 ++ octets 4 (2 + length name)
    ++ octets 2 0 ++ name

pub data Sample : Type 0 where
  -- of all command IDs, a byte, just these are permitted
  permits : (entry : ℕ) (words commands : List ℕ) → Sample
  -- a command that is well built but for what its words permit is answered so
  gives : (entry : ℕ) (words : List ℕ) (command number : ℕ) → Sample
  -- so many words are in the chain
  chains : (words : List ℕ) (count : ℕ) → Sample
  -- a number is fresh or not, after that last one
  is_fresh : (last number : ℕ) (so : Bool) → Sample
  all_stale : (last : ℕ) → Sample
  -- a command with so many bytes of payload and those words, by its number
  blocks : (payload : ℕ) (words : List ℕ) (number count : ℕ) → Sample
  -- a reply with so many bytes of payload, sealed by the server and opened by the client
  reply_blocks : (payload count : ℕ) → Sample
  -- narrowings of an issued capability by these words, one after the other
  narrowings : (words numbers : List ℕ) → Sample
  -- the fault of a book whose one host has that name
  names : (name : List ℕ) (fault : Fault) → Sample

abbrev pub Holds : Sample → Type 0
Holds (permits entry words commands) = permitted_from 0 256 entry words ≡ commands
Holds (gives entry words c n) =
    (s : State) (b : Parts) (room : List ℕ) → Typed s → WellFormed b → Connects s b (length room) → Finds s b → InRange s b
    → word_of s.rights b.ask.interface (id_of b.capability) ≡ entry → four_at b.capability 2 ≡ words → b.ask.command ≡ c
    → (answer s (command (packet_of s b) room)).number ≡ n
Holds (chains words n) = (secret : List ℕ) → length (chain_blocks secret words) ≡ n
Holds (is_fresh last n so) = (owed : Bool) → fresh (Open last owed) n ≡ so
Holds (all_stale last) = (owed : Bool) (n : ℕ) → n < 65536 → fresh (Open last owed) n ≡ false
Holds (blocks payload words n count) =
    (s : State) (p room : List ℕ) → length p ≡ 96 + payload → words_in s p ≡ words → (answer s (command p room)).number ≡ n
    → (answer s (command p room)).blocks ≡ count
Holds (reply_blocks payload count) =
    ((s : State) (h n : ℕ) (x room : List ℕ) → length x ≡ payload → (answer s (reply h n x room)).number ≡ 0
    → (answer s (reply h n x room)).blocks ≡ count)
    × ((key : List ℕ) (n : ℕ) (p room : List ℕ) → length p ≡ 32 + payload → (opened key n p room).number ≡ 0
    → (opened key n p room).blocks ≡ count)
Holds (narrowings words numbers) =
    (master : List ℕ) (id : ℕ) (room : List ℕ) → 50 ≤ length room → narrow_numbers (issued master id) words room ≡ numbers
Holds (names name f) = fault_of (book_of name) ≡ f

abbrev pub AllHold : List Sample → Type 0
AllHold [] = Unit
AllHold (s ∷ ss) = Holds s × AllHold ss

abbrev pub samples : List Sample
samples =
    -- P1 entry word 2^33, words all ones: command 33 permitted; 1 gives 18
    permits (2 ^ 33) (replicate 4 all_ones) (33 ∷ [])
    ∷ gives (2 ^ 33) (replicate 4 all_ones) 1 18
    -- P2 entry 15, words 12, 6, then ones: only command 2
    ∷ permits 15 (12 ∷ 6 ∷ all_ones ∷ all_ones ∷ []) (2 ∷ [])
    -- P3 the same entry, words 12, ones, 6, ones: one word in the chain, only command 2
    ∷ permits 15 (12 ∷ all_ones ∷ 6 ∷ all_ones ∷ []) (2 ∷ [])
    ∷ chains (12 ∷ all_ones ∷ 6 ∷ all_ones ∷ []) 1
    -- P4 last 7: 7 is stale, 8 and 9 fresh. P5 last 65,535: all stale
    ∷ is_fresh 7 7 false
    ∷ is_fresh 7 8 true
    ∷ is_fresh 7 9 true
    ∷ all_stale 65535
    -- P6 no payload, one narrowing, accepted: 8 blocks; 18: 6; 8: 2
    ∷ blocks 0 (12 ∷ all_ones ∷ all_ones ∷ all_ones ∷ []) 0 8
    ∷ blocks 0 (12 ∷ all_ones ∷ all_ones ∷ all_ones ∷ []) 18 6
    ∷ blocks 0 (12 ∷ all_ones ∷ all_ones ∷ all_ones ∷ []) 8 2
    -- P7 payload 1, refusal 18: 7. P8 reply payload 0 or 12: 3; 13: 4
    ∷ blocks 1 (12 ∷ all_ones ∷ all_ones ∷ all_ones ∷ []) 18 7
    ∷ reply_blocks 0 3
    ∷ reply_blocks 12 3
    ∷ reply_blocks 13 4
    -- P9 a fifth narrowing, by 12: 31
    ∷ narrowings (12 ∷ 12 ∷ 12 ∷ 12 ∷ 12 ∷ []) (0 ∷ 0 ∷ 0 ∷ 0 ∷ 31 ∷ [])
    -- P10 "a b" is a name; " a" fails at its first byte
    ∷ names (97 ∷ 32 ∷ 98 ∷ []) none
    ∷ names (32 ∷ 97 ∷ []) (fault 47 22)
    ∷ []
