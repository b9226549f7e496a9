-- `capability::bytes::put_words` meets its contract. The invariant: the first i words stand in the room.
use mathlib.Core.Path.{◌≡◌}
use lib.ListN.{take}
use Rattle.octets.specs.Room.{placed}
use Rattle.capability.specs.Bytes.{word_bytes}
use Rattle.capability.proofs.bytes.put_words.Given as goal

abbrev pub invariant-loop-i : goal.invariant-loop-i
invariant-loop-i l = l.room ≡ placed l.initial.room 2 (word_bytes (take l.i l.fn.words))
