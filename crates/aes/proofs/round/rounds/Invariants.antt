-- `round::rounds` meets its contract: before turn i the state is that after i - 1 rounds.
use mathlib.Core.Path.{◌≡◌}
use Prim.Native.Nat.{◌-◌}
use Rattle.aes.specs.Cipher.{rounds}
use Rattle.aes.specs.Prepared.{key_at}
use Rattle.aes.specs.Words.{bytes}
use Rattle.aes.proofs.round.rounds.Given as goal

abbrev pub invariant-loop-i : goal.invariant-loop-i
invariant-loop-i l = bytes l.s ≡ rounds (key_at l.p) (l.i - 1) (bytes l.initial.s)
