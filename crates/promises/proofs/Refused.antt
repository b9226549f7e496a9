-- "A refusal changes no record, no word and no lent byte." "An accepted command's answer also carries its other inner fields, an opened reply's its
-- payload length, a request's the host number; a refusal gives 0 for these."
use mathlib.Core.Path.{◌≡◌, refl}
use mathlib.Core.Logic.{◌≢◌}
use mathlib.Core.List.{List}
use Prim.Native.Nat.{ℕ}
use Rattle.octets.proofs.CheckLaws.{is_zero-false}
use Rattle.capability.specs.Calls.{issue_refusal, issued, narrow_refusal, narrowing, written}
use Rattle.state.specs.declared.State.{State}
use Rattle.command.specs.Heard.{no_order, heard, heard_room}
use Rattle.book.specs.States.{empty_state, loaded_with, loaded}
use Rattle.gateway.specs.Close.{closing}
use Rattle.gateway.specs.Revoke.{revoking}
use Rattle.gateway.specs.Request.{requesting, request_room}
use Rattle.gateway.specs.Proof.{proving, proof_room}
use Rattle.gateway.specs.Command.{command_heard, commanding, command_room}
use Rattle.gateway.specs.Reply.{replying, reply_room}
use Rattle.client.specs.Seal.{sealing, seal_room}
use Rattle.client.specs.OpenReply.{opened, open_room}
use Rattle.client.specs.declared.seal.Ask.{Ask}
use Rattle.promises.specs.Step.{Call, request, proof, command, reply, close, revoke, lent, answer, next}

-- ---- the server's calls: the state after the call, the lent room, the host number and the command's fields

pub refusal-keeps : (s : State) (c : Call) → (answer s c).number ≢ 0
    → (next s c ≡ s) × ((answer s c).room ≡ lent c) × ((answer s c).host ≡ 0) × ((answer s c).order ≡ no_order)
unfolding answer next requesting request_room proving proof_room commanding command_heard command_room heard heard_room replying reply_room closing revoking
refusal-keeps s (request p f room) d = rw (is_zero-false _ d) (refl, refl, refl, refl)
refusal-keeps s (proof h p room) d = rw (is_zero-false _ d) (refl, refl, refl, refl)
refusal-keeps s (command p room) d = rw (is_zero-false _ d) (refl, refl, refl, refl)
refusal-keeps s (reply h n pay room) d = rw (is_zero-false _ d) (refl, refl, refl, refl)
refusal-keeps s (close h) d = rw (is_zero-false _ d) (refl, refl, refl, refl)
refusal-keeps s (revoke i e w) d = rw (is_zero-false _ d) (refl, refl, refl, refl)

-- ---- the client's calls: the lent room, and an opened reply's payload length

pub refusal-issue : (master : List ℕ) (id : ℕ) (room : List ℕ) → issue_refusal master id room ≢ 0
    → written (issue_refusal master id room) (issued master id) room ≡ room
refusal-issue master id room d = rw (is_zero-false _ d)

pub refusal-narrow : (capability : List ℕ) (word : ℕ) (room : List ℕ) → narrow_refusal capability word room ≢ 0
    → written (narrow_refusal capability word room) (narrowing capability word) room ≡ room
refusal-narrow capability word room d = rw (is_zero-false _ d)

pub refusal-seal : (key vector capability : List ℕ) (ask : Ask) (payload room : List ℕ) → (sealing key vector capability ask payload room).number ≢ 0
    → seal_room key vector capability ask payload room ≡ room
unfolding sealing seal_room
refusal-seal key vector capability ask payload room d = rw (is_zero-false _ d)

pub refusal-open : (key : List ℕ) (expected : ℕ) (packet room : List ℕ) → (opened key expected packet room).number ≢ 0
    → (open_room key expected packet room ≡ room) × ((opened key expected packet room).length ≡ 0)
unfolding opened open_room
refusal-open key expected packet room d = rw (is_zero-false _ d) (refl, refl)

-- ---- "a refused one makes a state with no hosts and no interfaces"

pub refusal-load : (book : List ℕ) → (loaded book).number ≢ 0 → (loaded book).state ≡ empty_state
unfolding loaded loaded_with
refusal-load book d = rw (is_zero-false _ d)
