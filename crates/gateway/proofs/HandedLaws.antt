-- What a call is answered, and the state's part after it, settle what the call hands back.
use mathlib.Core.Path.{◌≡◌, sym, ap}
use Rattle.std.specs.Prelude.{Result, Ok, Err}
use Rattle.refusal.specs.declared.Refused.{Refused}
use Rattle.refusal.proofs.NumberLaws.{above-zero, refused-one}
use Rattle.state.specs.declared.Rights.{Rights}
use Rattle.state.specs.declared.Records.{Records}
use Rattle.gateway.specs.declared.Done.{Done}
use Rattle.gateway.specs.declared.requesting.Requested as Asked
use Rattle.gateway.specs.declared.commanding.Commanded as Told
use Rattle.gateway.specs.Common.{Changed, changed_in}
use Rattle.gateway.specs.Revoke.{Revoked, revoked_in}
use Rattle.gateway.specs.Request.{Requested, requested_in}
use Rattle.gateway.specs.Command.{Commanded, commanded_in}

pub changed_in-one : (s : Records) (x y : Result (Done Records) Refused) → changed_in s x ≡ changed_in s y → x ≡ y
changed_in-one s (Ok a) (Ok b) e = ap (λ (d : Changed). Ok (record { blocks = d.answer.blocks; after = d.records })) e
changed_in-one s (Ok a) (Err r) e = absurd (above-zero r.why (sym (ap (λ (d : Changed). d.answer.number) e)))
changed_in-one s (Err r) (Ok b) e = absurd (above-zero r.why (ap (λ (d : Changed). d.answer.number) e))
changed_in-one s (Err r) (Err q) e = ap Err (refused-one r q (ap (λ (d : Changed). d.answer.number) e) (ap (λ (d : Changed). d.answer.blocks) e))

pub revoked_in-one : (s : Rights) (x y : Result (Done Rights) Refused) → revoked_in s x ≡ revoked_in s y → x ≡ y
revoked_in-one s (Ok a) (Ok b) e = ap (λ (d : Revoked). Ok (record { blocks = d.answer.blocks; after = d.rights })) e
revoked_in-one s (Ok a) (Err r) e = absurd (above-zero r.why (sym (ap (λ (d : Revoked). d.answer.number) e)))
revoked_in-one s (Err r) (Ok b) e = absurd (above-zero r.why (ap (λ (d : Revoked). d.answer.number) e))
revoked_in-one s (Err r) (Err q) e = ap Err (refused-one r q (ap (λ (d : Revoked). d.answer.number) e) (ap (λ (d : Revoked). d.answer.blocks) e))

pub requested_in-one : (s : Records) (x y : Result Asked.Requested Refused) → requested_in s x ≡ requested_in s y → x ≡ y
requested_in-one s (Ok a) (Ok b) e =
    ap (λ (d : Requested). Ok (record { blocks = d.answer.blocks; host = d.host; records = d.records })) e
requested_in-one s (Ok a) (Err r) e = absurd (above-zero r.why (sym (ap (λ (d : Requested). d.answer.number) e)))
requested_in-one s (Err r) (Ok b) e = absurd (above-zero r.why (ap (λ (d : Requested). d.answer.number) e))
requested_in-one s (Err r) (Err q) e = ap Err (refused-one r q (ap (λ (d : Requested). d.answer.number) e) (ap (λ (d : Requested). d.answer.blocks) e))

pub commanded_in-one : (s : Records) (x y : Result Told.Commanded Refused) → commanded_in s x ≡ commanded_in s y → x ≡ y
commanded_in-one s (Ok a) (Ok b) e =
    ap (λ (d : Commanded). Ok (record { heard = record { blocks = d.heard.blocks; order = d.heard.order }; records = d.records })) e
commanded_in-one s (Ok a) (Err r) e = absurd (above-zero r.why (sym (ap (λ (d : Commanded). d.heard.number) e)))
commanded_in-one s (Err r) (Ok b) e = absurd (above-zero r.why (ap (λ (d : Commanded). d.heard.number) e))
commanded_in-one s (Err r) (Err q) e = ap Err (refused-one r q (ap (λ (d : Commanded). d.heard.number) e) (ap (λ (d : Commanded). d.heard.blocks) e))
