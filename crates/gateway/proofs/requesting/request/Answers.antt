-- `requesting::request` meets its contract: each return is an end of the call.
use mathlib.Core.Path.{◌≡◌, refl, ap, sym, ◌∙◌}
use mathlib.Core.List.{List}
use Prim.Native.Nat.{ℕ, ◌-◌}
use lib.ListN.{length}
use lib.Seq.{take_all}
use Rattle.std.specs.Prelude.{Option, Result, Err}
use native.Mathlib.Omega.{arith}
use Rattle.std.proofs.lemmas.Result.{err_from_is_err_and}
use Rattle.octets.specs.Room.{part}
use Rattle.octets.proofs.RoomLaws.{part-rest, length_part, filled-there}
use Rattle.octets.proofs.PlacedLaws.{placed-next}
use Rattle.state.specs.declared.Rights.{Rights}
use Rattle.refusal.proofs.NumberLaws.{above-zero}
use Rattle.gateway.specs.Request.{found, host_of, asked}
use Rattle.gateway.proofs.RequestLaws.{formed, no-host, some-host, ill-formed, nameless, roomless, granted}
use Rattle.gateway.proofs.requesting.request.Goals as goal

pub returns-in_err-judge : goal.returns-in_err-judge
returns-in_err-judge c =
    let p = err_from_is_err_and c.from_residual.result c.from_residual.ensures.1 in
    let r = c.in_err-judge.field-0.0 in
    rw (p.1, p.2) (ill-formed _ _ _ _ _ _ _ c.in_err-judge.ensures (λ e. above-zero r e))

pub slice_bounds-find-count : goal.slice_bounds-find-count
slice_bounds-find-count c = (formed _ _ _ (sym c.in_ok-judge.ensures)).1

-- the name as it is lent is the request's
named : (r : Rights) (names p : List ℕ) {h : Option ℕ} → h ≡ host_of (found r names (part p 20 (length p - 20))) → host_of (found r names (asked p)) ≡ h
named r names p e = sym (e ∙ ap (λ (n : List ℕ). host_of (found r names n)) (part-rest p 20))

err-one : {T E : Type 0} {x y : E} → ◌≡◌ {A = Result T E} (Err x) (Err y) → x ≡ y
err-one e = cc

pub returns-in_err-host : goal.returns-in_err-host
returns-in_err-host c =
    let a = c.args in
    let p = err_from_is_err_and c.from_residual-in_err-host.result c.from_residual-in_err-host.ensures.1 in
    let none = no-host _ (named a.rights a.names.now a.request.now c.find.ensures ∙ c.in_err-host.ensures.ok_part) in
    let why = rw c.in_err-host.ensures.ok_part at c.in_err-host.ensures.value in
    rw (p.1, p.2, err-one why) (nameless _ _ _ _ _ _ (sym c.in_ok-judge.ensures) _ refl none)

pub returns-then-room-lt32 : goal.returns-then-room-lt32
returns-then-room-lt32 c =
    let a = c.args in
    let some = some-host (found a.rights a.names.now (asked a.request.now)) c.in_ok-host.host (named a.rights a.names.now a.request.now c.find.ensures ∙ c.in_ok-host.ensures.ok_part) in
    rw c.into.ensures (roomless _ _ _ _ _ _ (sym c.in_ok-judge.ensures) _ some.0 some.1 c.if-room-lt32.true)

pub overflow_sub-at : goal.overflow_sub-at
overflow_sub-at c =
    let a = c.args in
    let some = some-host (found a.rights a.names.now (asked a.request.now)) c.in_ok-host.host (named a.rights a.names.now a.request.now c.find.ensures ∙ c.in_ok-host.ensures.ok_part) in omega arith

pub returns : goal.returns
returns c =
    let a = c.args in
    let k = formed _ _ _ (sym c.in_ok-judge.ensures) in
    let some = some-host (found a.rights a.names.now (asked a.request.now)) c.in_ok-host.host (named a.rights a.names.now a.request.now c.find.ensures ∙ c.in_ok-host.ensures.ok_part) in
    let challenge = c.bytes_at.ensures ∙ filled-there 16 a.fresh.now 0 (omega arith) ∙ take_all 16 a.fresh.now (omega arith) in
    let long = length_part a.request.now 4 16 (omega arith) in
    let room = c.put-2.ensures ∙ rw (c.put.ensures, c.part.ensures) (placed-next a.room.now 0 (part a.request.now 4 16) 16 a.fresh.now (omega arith) (omega arith)) in
    rw (c.with_record.ensures, c.from-at.ensures, c.request-waiting.ensures, challenge, room)
    (granted _ _ _ _ _ _ (sym c.in_ok-judge.ensures) _ some.0 some.1 c.if-room-lt32.false)

pub slice_bounds-find-start : goal.slice_bounds-find-start
slice_bounds-find-start c = (formed _ _ _ (sym c.in_ok-judge.ensures)).1
