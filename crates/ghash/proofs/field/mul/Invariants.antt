-- `ghash::field::mul` meets its contract. After i turns sum k is Z_i of x << 32 k, v is V_i and x is doubled i times; within a turn the sums below j have
-- taken their bit. Then the sums that are left, taken into z from the last on, come to what all of them come to.
use Rattle.std.proofs.Common.{◌≡◌, ℕ, ◌+◌, ◌*◌, ◌%◌, ◌^◌, ◌<◌, ◌≤◌, length}
use Rattle.ghash.specs.Field.{v_i}
use Rattle.ghash.proofs.TurnLaws.{Sum, taken}
use Rattle.ghash.proofs.field.mul.Given as goal

abbrev pub invariant-loop : goal.invariant-loop
invariant-loop g l = record {
  long : length l.sums ≡ g.row.N;
  doubled : l.x ≡ l.fn.x * 2 ^ l.counter % 2 ^ 128;
  power : l.v ≡ v_i l.y l.counter;
  sums : (k : ℕ) → k < g.row.N → Sum l.fn.x l.y l.counter l.sums k;
}

abbrev pub invariant-loop-j : goal.invariant-loop-j
invariant-loop-j g l = record {
  long : length l.sum-items ≡ g.row.N;
  more : (k : ℕ) → k < l.j → Sum l.fn.x l.y (l.counter + 1) l.sum-items k;
  sums : (k : ℕ) → l.j ≤ k → k < g.row.N → Sum l.fn.x l.y l.counter l.sum-items k;
}

abbrev pub invariant-loop-sum : goal.invariant-loop-sum
invariant-loop-sum g l = taken l.sum-iterator.iter.rest.now l.z ≡ taken l.initial.sum-iterator.iter.rest.now 0
