use mathlib.Core.Path.{◌≡◌, refl, ap, ap₂, ◌∙◌}
use native.Mathlib.Omega.{arith}
use Prim.Native.Nat.{◌-◌}
use Rattle.aes.specs.Cipher.{rounds, sub_bytes, shift_rows, mix_columns, add_round_key, last_round, cipher_by}
use Rattle.aes.specs.Prepared.{key_at, under}
use Rattle.aes.specs.Words.{bytes}
use Rattle.aes.proofs.KeyLaws.{round-step}
use Rattle.aes.proofs.round.rounds.Goals as goal

pub loop-i-init : goal.loop-i-init
unfolding rounds
loop-i-init c = refl

pub loop-i-preserved : goal.loop-i-preserved
loop-i-preserved c =
    let l = c.loop-i in
    round-step c.args.p.now (bytes c.bitxor-s.result) (bytes l.s) (bytes c.round_key-in-loop-i.result) _ l.i (omega arith) l.invariant
    c.round_key-in-loop-i.ensures
    (c.bitxor-s-in-loop-i.ensures ∙ λ t. add_round_key ((c.mix_columns.ensures ∙ ap mix_columns c.sub_shift.ensures) t) (bytes c.round_key-in-loop-i.result))

pub returns : goal.returns
unfolding under cipher_by last_round
returns c =
    let l = c.loop-i in
    let a = c.args in
    let e : l.i - 1 ≡ 9 = omega arith in
    let first = c.bitxor-s.ensures ∙ ap (add_round_key (bytes a.block)) c.round_key.ensures in
    let last = l.invariant ∙ ap₂ (rounds (key_at a.p.now)) e first in
    c.bitxor.ensures ∙ ap₂ add_round_key (c.sub_shift-2.ensures ∙ ap (λ s. shift_rows (sub_bytes s)) last) c.round_key-2.ensures
