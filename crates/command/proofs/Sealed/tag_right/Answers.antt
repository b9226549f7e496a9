-- `Sealed::tag_right` meets its contract: what is read of the packet is its own.
use mathlib.Core.Path.{◌≡◌}
use mathlib.Core.Bool.{Bool}
use mathlib.Core.List.{List}
use Prim.Native.Nat.{ℕ}
use Rattle.octets.proofs.RoomLaws.{part-rest}
use Rattle.packet.specs.Sealed.{right_tag}
use Rattle.command.proofs.Sealed.tag_right.Goals as goal

-- a verdict on equal parts
judged : (ciph : List ℕ → List ℕ) (r : Bool) (a a' iv iv' t t' c c' : List ℕ) → r ≡ right_tag ciph a iv t c → a ≡ a' → iv ≡ iv' → t ≡ t' → c ≡ c' →
    r ≡ right_tag ciph a' iv' t' c'
judged ciph r a a' iv iv' t t' c c' e e1 e2 e3 e4 = rw (← e1, ← e2, ← e3, ← e4) e

pub returns : goal.returns
returns c =
    judged _ _ _ _ _ _ _ _ _ _ c.authentic.ensures c.part.ensures c.vector_at.ensures c.bytes_at.ensures (part-rest c.args.self.now.packet.now 32)
