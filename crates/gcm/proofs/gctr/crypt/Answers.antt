use borrow.Author.Rules.{rules}
use mathlib.Core.Path.{◌≡◌, refl, sym, ap, ◌∙◌}
use mathlib.Core.List.{List}
use Prim.Native.Nat.{ℕ, ◌+◌, ◌-◌, ◌*◌, ◌%◌, ◌^◌, ◌<◌, min}
use native.Mathlib.Numerals.{add-one}
use native.Mathlib.Omega.{arith}
use lib.ListN.{length, take, drop}
use borrow.Rule.Slice.PartMut.{put_mid, same_len_mid}
use Rattle.aes.specs.Prepared.{under}
use Rattle.aes.proofs.CipherLaws.{under-length}
use Rattle.ghash.specs.Ghash.{blocks_in}
use Rattle.gcm.specs.Gctr.{xors}
use Rattle.gcm.specs.Gcm.{counter}
use Rattle.gcm.proofs.GctrLaws.{done, done_none, done_all, done_mid, gctr-count}
use Rattle.gcm.proofs.gctr.crypt.Goals as goal

pub loop-i-init : goal.loop-i-init
loop-i-init c =
    let a = c.args in
    record { long = refl; text = done_none (under a.p.now) (under-length a.p.now) (counter a.iv a.n) a.room.now; counted = omega arith }

pub loop-i-preserved : goal.loop-i-preserved
unfolding blocks_in
loop-i-preserved c =
    let a = c.args in
    let p = a.p.now in
    let x = a.room.now in
    let i = c.loop-i.i in
    let at = 16 * i in
    let known = c.loop-i.invariant in
    let e : length a.iv ≡ 12 = search rules in
    let within : at < length x = omega (arith, c.blocks_in-m.ensures, c.loop-i-test.true) in
    let k = c.min-end.result - at in
    let part : k ≡ min (length x) (at + 16) - at = omega (arith, c.min-end.ensures, known.long) in
    let ks = c.encrypt_prepared-ks.ensures ∙ ap (under p) (c.counter_block.ensures ∙ ap (counter a.iv) known.counted) in
    record {
      long = same_len_mid at k c.loop-i.room _ c.mix.auto.x ∙ known.long;
      text = ap (put_mid at k c.loop-i.room) (c.mix.ensures ∙ ap (xors (take k (drop at c.loop-i.room))) ks)
          ∙ ap (λ (d : List ℕ). put_mid at k d (xors (take k (drop at d)) (under p (counter a.iv ((a.n + i) % 2 ^ 32))))) known.text
          ∙ done_mid (under p) (under-length p) a.iv x a.n i e (omega arith) within k part
          ∙ ap (done (under p) (counter a.iv a.n) x) (sym (add-one i));
      counted = omega (arith, known.counted);
    }

pub returns : goal.returns
returns c =
    let a = c.args in
    let e : c.loop-i.i ≡ blocks_in (length a.room.now) = omega (arith, c.blocks_in-m.ensures) in (
      c.loop-i.invariant.text ∙ done_all (under a.p.now) (under-length a.p.now) (counter a.iv a.n) a.room.now c.loop-i.i e,
      c.blocks_in-m.ensures ∙ sym (gctr-count (under a.p.now) (counter a.iv a.n) a.room.now),
    )
