-- Document 01: "Demand 2 shuts out a box that refuses all, accepts all, keeps its state as it was, chains the first word and waves the other three
-- through, or invents its block count." For each such box a command on which it differs from ours, in the north dairy with the panel connected
-- (specs/Dairies: `plant`).
use mathlib.Core.Path.{◌≡◌, refl, sym, ap, subst, ◌∙◌}
use mathlib.Core.Logic.{◌≢◌}
use mathlib.Core.List.{List, [], ◌∷◌}
use Prim.Native.Nat.{ℕ, zero, suc, ◌<◌}
use native.Mathlib.Omega.{arith}
use lib.ListN.{length, get_or}
use Rattle.octets.specs.Little.{octets}
use Rattle.aes.proofs.Vectors.{zeroth, once, twice, chain-of-three}
use Rattle.ghash.specs.Ghash.{blocks_in}
use Rattle.capability.specs.Bytes.{id_of, four_at, secret_of}
use Rattle.capability.specs.Chain.{all_ones, first_secret, step, chain, right_secret, before}
use Rattle.capability.proofs.BytesLaws.{id-back, four-back, secret-back, length-capability}
use Rattle.state.specs.declared.State.{State}
use Rattle.state.specs.Records.{last_of}
use Rattle.promises.specs.Boxes.{Box, RefusesAll, AcceptsAll, KeepsState, first_word, StandsByFirst, FirstWordOnly, FirstWordChained, InventsCount}
use Rattle.promises.specs.Counts.{command_count, words_in}
use Rattle.promises.specs.Dairies.{master, room, asks, whole, narrower, fills, strays, fills_whole, claimed, claims, plant}
use Rattle.promises.specs.Facts.{text_in, command_facts}
use Rattle.promises.specs.Places.{interface_said, entry_said, command_said, words_said, secret_said, record_at, master_of}
use Rattle.promises.specs.Ready.{packet_of, WellFormed}
use Rattle.promises.specs.Rules.{Hold, slice}
use Rattle.promises.specs.Stands.{BitSet}
use Rattle.promises.specs.Step.{command, Said, answer, next}
use Rattle.promises.proofs.Blocks.{blocks-command}
use Rattle.promises.proofs.ByteLaws.{part_bytes}
use Rattle.promises.proofs.Facts.{command-number}
use Rattle.promises.proofs.Panel.{connected, whole-reached, narrower-reached, narrower-words, twos, formed-by, bytes-of, well-formed}
use Rattle.promises.proofs.Panel.{connects, under-key, finds, word-there, fills-accepted, fills-leaves, strays-refused}
use Rattle.promises.proofs.ReachedLaws as R
use Rattle.promises.proofs.ReachedLaws.{issued-words, capability-bytes}
use Rattle.promises.proofs.Ready.{built-long, built-words, built-interface, built-entry, built-command, built-secret, built-upto18}
use Rattle.promises.proofs.RuleLaws.{fails, hold-first}
use Rattle.promises.proofs.Stands.{all-but-right}

-- "refuses all": the filler's command is accepted by ours
abbrev pub NotRefusingAll : Type 0
NotRefusingAll = (b : Box) → RefusesAll b → b.says plant fills ≢ answer plant fills

-- "accepts all": that of interface 9 is refused
abbrev pub NotAcceptingAll : Type 0
NotAcceptingAll = (b : Box) → AcceptsAll b → b.says plant strays ≢ answer plant strays

-- "keeps its state as it was": the panel's last number moves
abbrev pub NotKeepingState : Type 0
NotKeepingState = (b : Box) → KeepsState b → b.becomes plant fills ≢ next plant fills

-- "chains the first word and waves the other three through": the claimed second narrowing is refused
abbrev pub NotByFirstWord : Type 0
NotByFirstWord = (b : Box) → FirstWordOnly b → b.says plant claims ≢ answer plant claims

abbrev pub NotChainingFirst : Type 0
NotChainingFirst = (b : Box) → FirstWordChained b → b.says plant claims ≢ answer plant claims

-- "invents its block count": two accepted commands of one length take unlike counts, so such a box differs on one of the two
abbrev pub NotInventing : Type 0
NotInventing = (b : Box) → InventsCount b → ¬ ((b.says plant fills ≡ answer plant fills) × (b.says plant fills_whole ≡ answer plant fills_whole))

-- and wherever a box's count isn't the table's, it isn't ours
abbrev pub NotMiscounting : Type 0
NotMiscounting =
    (b : Box) (s : State) (p room : List ℕ)
    → (b.says s (command p room)).blocks ≢ command_count (b.says s (command p room)).number (length p) (words_in s p)
    → b.says s (command p room) ≢ answer s (command p room)

-- ---- what ours does

fills-zero : (answer plant fills).number ≡ 0
fills-zero = fills-accepted plant 15 connected refl narrower narrower-reached 12 narrower-words refl

whole_words : four_at whole 2 ≡ all_ones ∷ all_ones ∷ all_ones ∷ all_ones ∷ []
whole_words = issued-words master 1 (omega arith)

whole-zero : (answer plant fills_whole).number ≡ 0
whole-zero = fills-accepted plant 15 connected refl whole whole-reached all_ones whole_words refl

strays-fourteen : (answer plant strays).number ≡ 14
strays-fourteen = strays-refused plant 0 15 connected (omega arith)

-- ---- the counts: 99 bytes, and one word in the chain or none

module _ (c : List ℕ) (formed : WellFormed (asks 1 1 c)) (ws : List ℕ) (words : four_at c 2 ≡ ws) where
  counted : (answer plant (command (packet_of plant (asks 1 1 c)) room)).number ≡ 0
      → (answer plant (command (packet_of plant (asks 1 1 c)) room)).blocks ≡ command_count 0 99 ws
  counted e =
      blocks-command plant (packet_of plant (asks 1 1 c)) room
      ∙ rw (e, built-long plant (asks 1 1 c) formed, built-words plant (asks 1 1 c) formed, words)

fills-nine : (answer plant fills).blocks ≡ 9
unfolding blocks_in before
fills-nine =
    under-key plant 0 15 connected 1 1 narrower (λ p. (answer plant (command p room)).number ≡ 0 → (answer plant (command p room)).blocks ≡ 9)
    (counted narrower (well-formed 1 1 narrower (omega arith) (omega arith) narrower-reached) _ narrower-words) fills-zero

whole-eight : (answer plant fills_whole).blocks ≡ 8
unfolding blocks_in before
whole-eight =
    under-key plant 0 15 connected 1 1 whole (λ p. (answer plant (command p room)).number ≡ 0 → (answer plant (command p room)).blocks ≡ 8)
    (counted whole (well-formed 1 1 whole (omega arith) (omega arith) whole-reached) _ whole_words) whole-zero

-- ---- the claimed narrowing

-- the first three secrets of the chain, each enciphered under the one before it (FIPS 197), as the check computes them
secrets : (first_secret master 1 ≡ zeroth) × (step zeroth 12 ≡ once) × (step once 6 ≡ twice)
unfolding first_secret step octets
secrets = chain-of-three

-- the chain of 12 alone, and that of 12 and 6
chained : (right_secret master 1 (12 ∷ all_ones ∷ all_ones ∷ all_ones ∷ []) ≡ once)
    × (right_secret master 1 (12 ∷ 6 ∷ all_ones ∷ all_ones ∷ []) ≡ twice)
unfolding right_secret chain
chained = (
  ap (λ (s : List ℕ). step s 12) secrets.0 ∙ secrets.1,
  ap (λ (s : List ℕ). step (step s 12) 6) secrets.0 ∙ ap (λ (s : List ℕ). step s 6) secrets.1 ∙ secrets.2,
)

-- its ID, its words and its secret, which is that of the first narrowing alone
abbrev claimed_words : List ℕ
claimed_words = 12 ∷ 6 ∷ all_ones ∷ all_ones ∷ []

narrower-secret : secret_of narrower ≡ once
narrower-secret = (R.whole master 1 (omega arith) narrower narrower-reached).secret ∙ ap (right_secret master 1) narrower-words ∙ chained.0

claimed-id : id_of claimed ≡ 1
claimed-id = id-back 1 claimed_words (secret_of narrower) (omega arith)

claimed-words : four_at claimed 2 ≡ claimed_words
claimed-words = four-back 1 12 6 all_ones all_ones (secret_of narrower) (omega arith) (omega arith) (omega arith) (omega arith)

claimed-secret : secret_of claimed ≡ once
claimed-secret = secret-back 1 claimed_words (secret_of narrower) refl (ap length narrower-secret) ∙ narrower-secret

claimed-formed : WellFormed (asks 1 1 claimed)
unfolding secret_of
claimed-formed = formed-by 1 1 claimed (omega arith) (omega arith) (
  length-capability 1 claimed_words (secret_of narrower) refl (ap length narrower-secret),
  capability-bytes 1 claimed_words (secret_of narrower) (part_bytes narrower (bytes-of narrower narrower-reached).1 34 16),
)

-- command 2 is in all four of its words
claimed-bits : (k : ℕ) → k < 4 → BitSet 2 (get_or claimed_words k 0)
claimed-bits zero l = refl
claimed-bits (suc zero) l = refl
claimed-bits (suc (suc zero)) l = refl
claimed-bits (suc (suc (suc zero))) l = refl
claimed-bits (suc (suc (suc (suc k)))) l = absurd (omega arith)

-- the packet, of which all facts hold but that of the secret
abbrev p : List ℕ
p = packet_of plant (asks 1 1 claimed)

abbrev t : List ℕ
t = text_in plant p

upto18 : Hold (slice 0 19 (command_facts plant p 48))
upto18 =
    built-upto18 plant (asks 1 1 claimed) room connected.typed claimed-formed (connects plant 0 15 connected 1 1 claimed (omega arith))
    (finds plant 0 15 connected 1 claimed claimed-id)
    (rw (word-there plant 0 15 connected 1 claimed claimed-id) refl, subst (λ (ws : List ℕ). (k : ℕ) → k < 4 → BitSet 2 (get_or ws k 0)) (sym claimed-words) claimed-bits)

said-words : words_said t ≡ claimed_words
said-words = built-words plant (asks 1 1 claimed) claimed-formed ∙ claimed-words

said-secret : secret_said t ≡ once
said-secret = built-secret plant (asks 1 1 claimed) claimed-formed ∙ claimed-secret

-- the right secret of what the text names, for words ws
right-secret : (ws : List ℕ) → right_secret (master_of plant.rights (interface_said t)) (entry_said t) ws ≡ right_secret master 1 ws
right-secret ws =
    rw (
      built-interface plant (asks 1 1 claimed) claimed-formed,
      built-entry plant (asks 1 1 claimed) claimed-formed,
      claimed-id,
      connected.holds.secret,
    )

-- ours refuses it by 19
claims-nineteen : (answer plant (command p room)).number ≡ 19
claims-nineteen =
    fails (slice 0 19 (command_facts plant p 48)) 19 [] _ upto18
    (λ e. let same = sym said-secret ∙ e ∙ right-secret (words_said t) ∙ ap (right_secret master 1) said-words ∙ chained.1 in
    let byte : ◌≡◌ {A = ℕ} 136 166 = ap (λ (l : List ℕ). get_or l 0 0) same in
    absurd (omega arith))
    (command-number plant p room connected.typed)

-- by its first word it stands up
by_first : StandsByFirst plant p 48
unfolding all-but-right
by_first =
    let right = upto18.1.1.1.1.1.1.1.1.1.1.1.1.1.1 in
    let first : first_word t ≡ 12 ∷ all_ones ∷ all_ones ∷ all_ones ∷ [] =
    ap (λ (ws : List ℕ). get_or ws 0 0 ∷ all_ones ∷ all_ones ∷ all_ones ∷ []) said-words in
    let two = built-command plant (asks 1 1 claimed) claimed-formed in record {
      arrives = all-but-right plant p 48 (hold-first (slice 0 14 (command_facts plant p 48)) (slice 14 5 (command_facts plant p 48)) upto18);
      entitled = record {
        interface = right.0;
        entry = right.1.0;
        group = right.1.1.0;
        command = right.1.1.1.0;
        permitted = (right.1.1.1.1.0.0, first-bits first two);
        genuine = said-secret ∙ sym (right-secret (first_word t) ∙ ap (right_secret master 1) first ∙ chained.0);
      };
    }
  where
    first-bits : first_word t ≡ 12 ∷ all_ones ∷ all_ones ∷ all_ones ∷ [] → command_said t ≡ 2 → (k : ℕ) → k < 4 → BitSet (command_said t) (get_or (first_word t) k 0)
    first-bits e two k l =
        subst (λ (ws : List ℕ). BitSet (command_said t) (get_or ws k 0)) (sym e)
        (subst (λ (c : ℕ). BitSet c (get_or (12 ∷ all_ones ∷ all_ones ∷ all_ones ∷ []) k 0)) (sym two) (twos 12 refl k l))

-- ---- the promises

pub not-refusing-all : NotRefusingAll
not-refusing-all b h e = h plant _ _ (ap (λ (x : Said). x.number) e ∙ fills-zero)

pub not-accepting-all : NotAcceptingAll
not-accepting-all b h e =
    let same : ◌≡◌ {A = ℕ} 0 14 = sym (h plant _ _) ∙ ap (λ (x : Said). x.number) e ∙ strays-fourteen in
    absurd (omega arith)

pub not-keeping-state : NotKeepingState
not-keeping-state b h e =
    let left = fills-leaves plant 15 connected refl narrower narrower-reached 12 narrower-words refl in
    let same = ap (λ (s : State). (record_at s 1).phase) (sym (h plant _ _) ∙ e) in
    let last : ◌≡◌ {A = ℕ} 0 1 = ap last_of (sym connected.phase ∙ same ∙ left.phase) in
    absurd (omega arith)

pub not-chaining-first : NotChainingFirst
unfolding by_first all-but-right
not-chaining-first b h =
    under-key plant 0 15 connected 1 1 claimed (λ q. b.says plant (command q room) ≢ answer plant (command q room)) apart
  where
    bits : (k : ℕ) → k < 4 → BitSet (command_said t) (get_or (words_said t) k 0)
    bits = upto18.1.1.1.1.1.1.1.1.1.1.1.1.1.1.1.1.1.1.0.1

    apart : b.says plant (command p room) ≢ answer plant (command p room)
    apart e =
        let same : ◌≡◌ {A = ℕ} 0 19 = sym (h plant p room by_first bits) ∙ ap (λ (x : Said). x.number) e ∙ claims-nineteen in
        absurd (omega arith)

pub not-by-first-word : NotByFirstWord
not-by-first-word b h = not-chaining-first b (λ s q r stands bits. h s q r stands)

-- the rule's count for the packet q of 99 bytes, which ours accepts with the count k
rule-count : (b : Box) (h : InventsCount b) (q : List ℕ) (k : ℕ) → length q ≡ 99 → (answer plant (command q room)).number ≡ 0
    → (answer plant (command q room)).blocks ≡ k → b.says plant (command q room) ≡ answer plant (command q room) → h.rule plant room 0 99 ≡ k
rule-count b h q k long zero-now blocks e =
    let made = h.count plant q room in
    sym (rw (e, zero-now, blocks, long) at made)

-- both packets have 99 bytes
long : (c : List ℕ) → WellFormed (asks 1 1 c) → length (packet_of plant (asks 1 1 c)) ≡ 99
long c formed = built-long plant (asks 1 1 c) formed

pub not-inventing : NotInventing
not-inventing b h e =
    let nine =
    rule-count b h _ 9
    (under-key plant 0 15 connected 1 1 narrower (λ q. length q ≡ 99) (long narrower (well-formed 1 1 narrower (omega arith) (omega arith) narrower-reached)))
    fills-zero fills-nine e.0 in
    let eight =
    rule-count b h _ 8
    (under-key plant 0 15 connected 1 1 whole (λ q. length q ≡ 99) (long whole (well-formed 1 1 whole (omega arith) (omega arith) whole-reached)))
    whole-zero whole-eight e.1 in
    let same : ◌≡◌ {A = ℕ} 9 8 = sym nine ∙ eight in
    absurd (omega arith)

pub not-miscounting : NotMiscounting
not-miscounting b s q r d e = d (rw e (blocks-command s q r))
