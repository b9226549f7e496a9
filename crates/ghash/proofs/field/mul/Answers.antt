use mathlib.Core.Path.{refl, sym, ap, ◌∙◌}
use Rattle.std.proofs.Common.{◌≡◌, ◌<◌, ◌≢◌, length, arith, get_or-set_other, get_or-set_same, length-set, below_more, rules}
use lib.Bits.{bit_xor}
use lib.ListN.{length-replicate}
use Rattle.ghash.specs.Field.{v_i, z_i}
use Rattle.octets.proofs.RoomLaws.{get_or-zeros}
use Rattle.ghash.proofs.TurnLaws.{taken, turn-double, turn-power, turn-sum, taken-last, taken-none, taken-dot}
use Rattle.ghash.proofs.field.mul.Goals as goal

pub loop-init : goal.loop-init
unfolding v_i z_i
loop-init g c = record {
  long = length-replicate g.row.N 0;
  doubled = omega arith;
  power = refl;
  sums = λ k h. get_or-zeros g.row.N k;
}

pub loop-j-init : goal.loop-j-init
loop-j-init g c = record {
  long = c.loop.invariant.long;
  more = λ k h. absurd (omega arith);
  sums = λ k h m. c.loop.invariant.sums k m;
}

pub loop-j-preserved : goal.loop-j-preserved
loop-j-preserved g c =
    let a = c.args in
    let l = c.loop in
    let i = l.invariant in
    let s = c.loop-j.invariant in
    let j = c.loop-j.j in
    let lt : j < length c.loop-j.sum-items = omega arith in
    record {
      long = simp length-set s.long;
      more =
          below_more _ _ (λ k h. let ne : k ≢ j = omega arith in rw get_or-set_other (s.more k h))
          (rw get_or-set_same (turn-sum a.x a.y l.counter j l.x _ l.v c.add.result i.doubled (omega arith) (omega arith) (s.sums j (omega arith) (omega arith)) i.power c.add.ensures));
      sums = λ k h m. let ne : k ≢ j = omega arith in rw get_or-set_other (s.sums k (omega arith) m);
    }

pub loop-preserved : goal.loop-preserved
loop-preserved g c =
    let a = c.args in
    let l = c.loop in
    let i = l.invariant in
    record {
      long = c.loop-j.invariant.long;
      doubled = turn-double a.x l.counter l.x i.doubled;
      power = turn-power a.y l.counter l.v _ i.power c.times_x-v.ensures;
      sums = λ k h. c.loop-j.invariant.more k (omega arith);
    }

pub loop-sum-preserved : goal.loop-sum-preserved
loop-sum-preserved g c =
    let s = c.in-Some.sum.now in
    let z = c.loop-sum.z in
    let left = c.next.new.self.iter.rest.now in
    ap (λ n. taken left (bit_xor n s)) c.times_x32.ensures
    ∙ sym (taken-last left s z)
    ∙ ap (λ r. taken r z) (sym c.in-Some.ensures.steps)
    ∙ c.loop-sum.invariant

pub returns : goal.returns
returns g c =
    let a = c.args in
    let i = c.loop.invariant in
    let sums : c.into_iter-sum-iterator.result.iter.rest.now ≡ c.loop.sums = search rules in
    let turns : c.loop.counter ≡ 32 = omega arith in
    sym (taken-none c.loop-sum.sum-iterator.iter.rest.now c.loop-sum.z c.in-None.ensures.steps.0)
    ∙ c.loop-sum.invariant
    ∙ ap (λ r. taken r 0) sums
    ∙ taken-dot c.loop.sums a.x a.y g.row.N i.long c.requires.four c.requires.rest (λ k h. rw turns at i.sums k h)
