-- Of any call of the server's, a load among them, in every state, sound or not: "Every answer carries a number (0 for accepted)", and it is 0 or one
-- that document 01 lists for that call (`any-number`); "A refusal changes no record, no word and no lent byte", it gives 0 in the answer's other
-- fields, and a refused load makes "a state with no hosts and no interfaces" (`any-refused`).
use mathlib.Core.Path.{◌≡◌, refl, ap, ◌∙◌}
use mathlib.Core.Logic.{◌≢◌}
use Rattle.state.specs.declared.State.{State}
use Rattle.state.specs.Flat.{no_rights}
use Rattle.book.specs.States.{empty_state}
use Rattle.promises.specs.Among.{Among}
use Rattle.promises.specs.Any.{Any, call, load, said_to, allowed_to, Refused}
use Rattle.promises.proofs.Numbers.{numbers}
use Rattle.promises.proofs.Loaded.{numbers-load}
use Rattle.promises.proofs.Refused.{refusal-keeps, refusal-load}

abbrev pub AnyNumber : Type 0
AnyNumber = (s : State) (a : Any) → Among (allowed_to a) (said_to s a).number

abbrev pub AnyRefused : Type 0
AnyRefused = (s : State) (a : Any) → (said_to s a).number ≢ 0 → Refused s a

pub any-number : AnyNumber
any-number s (call c) = numbers s c
any-number s (load b) = numbers-load b

-- the state with no hosts and no interfaces
nobody : (t : State) → t ≡ empty_state → (t ≡ empty_state) × (t.rights.hosts ≡ 0) × (t.rights.interfaces ≡ 0)
unfolding empty_state no_rights
nobody t e = (e, ap (λ (x : State). x.rights.hosts) e, ap (λ (x : State). x.rights.interfaces) e)

pub any-refused : AnyRefused
any-refused s (call c) d =
    let k = refusal-keeps s c d in record { state = k.0; room = k.1; host = k.2; order = k.3; made = λ t m. absurd m }
any-refused s (load b) d =
    record { state = refl; room = refl; host = refl; order = refl; made = λ t m. nobody t (m ∙ refusal-load b d) }
