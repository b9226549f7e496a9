-- Document 01, "Samples on both sides": P1 to P10 hold.
use mathlib.Core.Path.{◌≡◌, refl, ap, ap₂, ◌∙◌}
use mathlib.Core.List.{List, [], ◌∷◌}
use Prim.Native.Nat.{ℕ, ◌+◌, ◌^◌}
use native.Mathlib.Omega.{arith}
use borrow.Author.Tests.{le-ltb}
use lib.ListN.{length}
use Rattle.octets.specs.Little.{number, octets}
use Rattle.aes.proofs.CipherLaws.{cipher-length}
use Rattle.ghash.specs.Ghash.{blocks_in}
use Rattle.capability.specs.Chain.{all_ones, first_secret, chain_blocks, before}
use Rattle.capability.specs.Rights.{allows, all_allow, permitted}
use Rattle.capability.specs.Bytes.{id_of, word_at, word_bytes, capability, narrowed, open?}
use Rattle.capability.specs.Calls.{issued, narrow_refusal, narrowing}
use Rattle.capability.proofs.ChainLaws.{length-step}
use Rattle.layout.specs.Layout.{format, rows, total, kind, id, start, size, hosts_before, expected, lead, name_start, name}
use Rattle.grammar.specs.Names.{letter, inner_space, fitting}
use Rattle.grammar.specs.Faults.{first, each}
use Rattle.grammar.specs.Checks.{kind_fits, ordinal, size_fits, used_below, name_checks, body_checks, fault_of}
use Rattle.octets.specs.Checks.{pick, is_zero}
use Rattle.state.specs.declared.State.{State}
use Rattle.client.specs.OpenReply.{opened}
use Rattle.promises.specs.Step.{command, reply, answer}
use Rattle.promises.specs.Places.{word_of}
use Rattle.promises.specs.Ready.{Parts, packet_of, WellFormed, Connects, Finds, InRange}
use Rattle.promises.specs.Typed.{Typed}
use Rattle.promises.specs.Counts.{command_count, reply_count, open_count, words_in}
use Rattle.promises.proofs.Blocks.{blocks-command, blocks-reply, blocks-open}
use Rattle.promises.proofs.Ready.{built-18}
use Rattle.promises.specs.Samples.{permitted_from, narrow_numbers, samples, AllHold}

infixr 60 ◌and◌
◌and◌ : {A B : Type 0} → A → B → A × B
a and b = (a, b)

-- the words of one narrowing, by 12
abbrev narrowed_once : List ℕ
narrowed_once = 12 ∷ all_ones ∷ all_ones ∷ all_ones ∷ []

-- P1: the bit of command 1 isn't in 2^33
gives-18 : (s : State) (b : Parts) (room : List ℕ) → Typed s → WellFormed b → Connects s b (length room) → Finds s b → InRange s b
    → word_of s.rights b.ask.interface (id_of b.capability) ≡ 2 ^ 33 → b.ask.command ≡ 1
    → (answer s (command (packet_of s b) room)).number ≡ 18
gives-18 s b room typed w c f l word one =
    built-18 s b room typed w c f l (λ h. let bit : ◌≡◌ {A = ℕ} 0 1 = rw (word, one) at h.0 in absurd (omega arith))

-- P6 to P8: a count of the table is that of the call
counted : (payload n : ℕ) (words : List ℕ) (s : State) (p room : List ℕ) → length p ≡ 96 + payload → words_in s p ≡ words
    → (answer s (command p room)).number ≡ n → (answer s (command p room)).blocks ≡ command_count n (96 + payload) words
counted payload n words s p room l w e =
    blocks-command s p room
    ∙ ap (λ (k : ℕ). command_count k (length p) (words_in s p)) e
    ∙ ap₂ (λ (k : ℕ) (ws : List ℕ). command_count n k ws) l w

replied : (payload : ℕ) →
    ((s : State) (h n : ℕ) (x room : List ℕ) → length x ≡ payload → (answer s (reply h n x room)).number ≡ 0
    → (answer s (reply h n x room)).blocks ≡ reply_count payload)
    × ((key : List ℕ) (n : ℕ) (p room : List ℕ) → length p ≡ 32 + payload → (opened key n p room).number ≡ 0
    → (opened key n p room).blocks ≡ reply_count payload)
replied payload = (
  (λ s h n x room l e. blocks-reply s h n x room ∙ ap₂ (λ (k m : ℕ). pick (is_zero k) (reply_count m) 0) e l),
  (λ key n p room l e. blocks-open key n p room ∙ ap₂ open_count e l ∙ ap (λ (m : ℕ). 2 + blocks_in m) (omega arith)),
)

-- all by computation but P5's order of numbers and, in P9, the lengths of the secrets and of the room
pub samples-hold : AllHold samples
unfolding
    permitted_from permitted all_allow allows chain_blocks blocks_in before
    narrow_numbers issued narrow_refusal narrowing capability word_bytes octets number narrowed open? word_at first_secret
    fault_of body_checks name_checks used_below kind_fits ordinal size_fits first each fitting letter inner_space
    format rows total kind id start size hosts_before expected lead name_start name
samples-hold =
    refl and (λ s b room typed w c f l word words one. gives-18 s b room typed w c f l word one)
    and refl
    and refl and (λ secret. refl)
    and (λ owed. refl) and (λ owed. refl) and (λ owed. refl)
    and (λ owed n h. le-ltb 65535 n (omega arith))
    and counted 0 0 narrowed_once and counted 0 18 narrowed_once and counted 0 8 narrowed_once
    and counted 1 18 narrowed_once
    and replied 0 and replied 12 and replied 13
    and (λ master i room h. simp (cipher-length, length-step, le-ltb (length room) 50 h))
    and refl and refl
    and tt
