use mathlib.Core.Path.{◌≡◌, refl, ap, sym, ◌∙◌}
use Prim.Native.Nat.{◌*◌}
use native.Mathlib.Omega.{arith}
use borrow.Author.Rules.{rules}
use borrow.Rule.Slice.PartMut.{same_len_mid}
use lib.ListN.{length}
use lib.Seq.{take_all}
use Rattle.aes.specs.KeyExpansion.{round_key, power}
use Rattle.aes.specs.Prepared.{keys, prepared}
use Rattle.aes.specs.Words.{bytes}
use Rattle.aes.proofs.KeyLaws.{key-put, key-next, power-next}
use Rattle.aes.proofs.keys.expand.Goals as goal

pub loop-i-init : goal.loop-i-init
unfolding keys round_key power
loop-i-init c = record { long = search rules; keys_there = refl; next_key = refl; constant = refl; one_byte = search rules }

pub loop-i-preserved : goal.loop-i-preserved
loop-i-preserved c =
    let l = c.loop-i in
    let put = c.copy_from_slice.ensures.after ∙ c.from.ensures in
    let next = power-next l.rc c.times_x-rc.result l.i l.invariant.constant l.invariant.one_byte (omega arith) c.times_x-rc.ensures in
    record {
      long = same_len_mid (16 * l.i) _ l.p _ c.copy_from_slice.ensures.len ∙ l.invariant.long;
      keys_there = key-put _ l.p _ l.i _ l.invariant.keys_there (omega arith) (ap length put) (put ∙ l.invariant.next_key);
      next_key = c.next_key-k.ensures ∙ key-next _ (bytes l.k) l.rc l.i l.invariant.next_key l.invariant.constant;
      constant = next.0;
      one_byte = next.1;
    }

pub returns : goal.returns
unfolding prepared
returns c =
    let l = c.loop-i in
    let e : l.i ≡ 11 = omega arith in
    sym (take_all (16 * l.i) l.p (omega arith)) ∙ l.invariant.keys_there ∙ ap (keys _) e
