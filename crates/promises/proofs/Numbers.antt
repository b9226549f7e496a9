-- "Every answer carries a number (0 for accepted)": it is 0, or one of those that "Order." lists for the call.
use mathlib.Core.Path.{◌≡◌, refl}
use mathlib.Core.Logic.{◌⊎◌, inl, inr, ⊎_map}
use mathlib.Core.Bool.{Bool, true, false, ◌||◌, false≢true}
use mathlib.Core.List.{List, [], ◌∷◌}
use Prim.Native.Nat.{ℕ, zero, suc}
use borrow.Author.Tests.{eqb-true}
use lib.Dec.{eqb}
use Rattle.octets.specs.Checks.{pick, ◌then◌}
use Rattle.capability.specs.Calls.{issue_refusal, narrow_refusal}
use Rattle.state.specs.declared.State.{State}
use Rattle.command.specs.Command.{outer, tagged, inner, rightful, genuine, judged, opening, weighed, command_refusal}
use Rattle.command.specs.Heard.{heard}
use Rattle.gateway.specs.Close.{close_refusal, closing}
use Rattle.gateway.specs.Revoke.{revoke_refusal, revoking}
use Rattle.gateway.specs.Request.{form_refusal, request_refusal, requesting}
use Rattle.gateway.specs.Proof.{proof_refusal, proving}
use Rattle.gateway.specs.Command.{command_heard}
use Rattle.gateway.specs.Reply.{reply_refusal, replying}
use Rattle.client.specs.Seal.{seal_refusal, sealing}
use Rattle.client.specs.OpenReply.{reply_outer, reply_tagged, reply_inner, open_refusal, opened}
use Rattle.client.specs.declared.seal.Ask.{Ask}
use Rattle.promises.specs.Step.{Call, request, proof, command, reply, close, revoke, answer}
use Rattle.promises.specs.Among.{Listed, Among, allowed}

-- whether n stands in the list
abbrev pub in_list : List ℕ → ℕ → Bool
in_list [] n = false
in_list (m ∷ ms) n = eqb n m || in_list ms n

either : (a b : Bool) → (a || b) ≡ true → (a ≡ true) ⊎ (b ≡ true)
either true b e = inl refl
either false b e = inr e

listed : (ms : List ℕ) (n : ℕ) → in_list ms n ≡ true → Listed ms n
listed [] n e = absurd (false≢true e)
listed (m ∷ ms) n e = ⊎_map (eqb-true n m) (listed ms n) (either (eqb n m) _ e)

-- a table's number, row by row, and the number of stages
pub none : (ms : List ℕ) → Among ms 0
none ms = inl refl

pub row : (ms : List ℕ) (t : Bool) (n m : ℕ) → in_list ms n ≡ true → Among ms m → Among ms (pick t n m)
row ms true n m e h = inr (listed ms n e)
row ms false n m e h = h

pub stages : (ms : List ℕ) (a b : ℕ) → Among ms a → Among ms b → Among ms (a then b)
stages ms zero b p q = q
stages ms (suc a) b p q = p

pub ruleset rows = (none, row, stages)

-- ---- the server's calls

pub numbers : (s : State) (c : Call) → Among (allowed c) (answer s c).number
unfolding answer requesting request_refusal form_refusal proving proof_refusal replying reply_refusal closing close_refusal revoking revoke_refusal
    command_heard heard command_refusal opening outer tagged weighed judged inner rightful genuine
numbers s (request p f room) = search rows depth 10
numbers s (proof h p room) = search rows depth 10
numbers s (command p room) = search rows depth 20
numbers s (reply h n pay room) = search rows depth 10
numbers s (close h) = search rows depth 10
numbers s (revoke i e w) = search rows depth 10

-- ---- the client's: "Issue: 28, 15 (ID 0), 7. Narrow: 28, 32, 31, 7. Seal command: 28, 5, 12, 30, 7. Open reply: 28, 1, 2, 5, 7, 8, 11, 12."

pub numbers-issue : (master : List ℕ) (id : ℕ) (room : List ℕ) → Among (28 ∷ 15 ∷ 7 ∷ []) (issue_refusal master id room)
unfolding issue_refusal
numbers-issue master id room = search rows

pub numbers-narrow : (capability : List ℕ) (word : ℕ) (room : List ℕ) → Among (28 ∷ 32 ∷ 31 ∷ 7 ∷ []) (narrow_refusal capability word room)
unfolding narrow_refusal
numbers-narrow capability word room = search rows

pub numbers-seal : (key vector capability : List ℕ) (ask : Ask) (payload room : List ℕ)
    → Among (28 ∷ 5 ∷ 12 ∷ 30 ∷ 7 ∷ []) (sealing key vector capability ask payload room).number
unfolding sealing seal_refusal
numbers-seal key vector capability ask payload room = search rows depth 10

pub numbers-open : (key : List ℕ) (expected : ℕ) (packet room : List ℕ)
    → Among (28 ∷ 1 ∷ 2 ∷ 5 ∷ 7 ∷ 8 ∷ 11 ∷ 12 ∷ []) (opened key expected packet room).number
unfolding opened open_refusal reply_outer reply_tagged reply_inner
numbers-open key expected packet room = search rows depth 10
