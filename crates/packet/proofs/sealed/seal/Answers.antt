-- `packet::sealed::seal` meets its contract: the text is placed and sealed where it stands, and then the front is placed.
use mathlib.Core.Path.{◌≡◌, sym, ap, ap₂, ◌∙◌}
use mathlib.Core.Bool.{Bool, true}
use mathlib.Core.List.{List, ◌++◌, append-nil, append_assoc}
use Prim.Native.Nat.{ℕ, ◌+◌, ◌-◌, ◌≤◌, ◌<◌}
use native.Mathlib.Omega.{arith}
use borrow.Author.Tests.{leb-true, leb-false}
use lib.Dec.{leb}
use lib.ListN.{length, take, drop, length-append}
use Rattle.octets.specs.Room.{part, placed}
use Rattle.octets.proofs.RoomLaws.{length_part, length-placed}
use Rattle.octets.proofs.PlacedLaws.{placed-part}
use Rattle.aes.specs.Cipher.{cipher}
use Rattle.aes.proofs.CipherLaws.{cipher-length}
use Rattle.gcm.specs.Gcm.{seal}
use Rattle.gcm.proofs.GcmLaws.{seal-length}
use Rattle.ghash.specs.Ghash.{blocks_in}
use Rattle.packet.proofs.SealedLaws.{packet-made, blocks-made, packet-short, blocks-short}
use borrow.Author.Rules.{rules}
use Rattle.packet.proofs.sealed.seal.Goals as goal

pub returns-then-not-holds : goal.returns-then-not-holds
returns-then-not-holds c =
    let a = c.args in
    let text = a.lead.now ++ a.payload.now in
    let twelve : length a.iv ≡ 12 = search rules in
    let lack = leb-false (length a.a.now + 28 + (length a.lead.now + length a.payload.now)) (length a.room.now) (sym c.holds.ensures ∙ c.if-not-holds.true) in
    let short : length a.room.now < length a.a.now + 28 + length text = omega (arith, length-append a.lead.now a.payload.now) in
    (packet-short a.key a.a.now a.iv text twelve a.room.now short, blocks-short a.key a.a.now a.iv text twelve a.room.now short)

-- what `holds` says: the room has the packet's bytes
fit : (need room : ℕ) (b : Bool) → b ≡ leb need room → b ≡ true → need ≤ room
fit need room b e t = leb-true need room (sym e ∙ t)

pub put_all-requires : goal.put_all-requires
put_all-requires c =
    let a = c.args in
    rw append-nil (omega (arith, fit _ _ _ c.holds.ensures c.if-not-holds.false, length-append a.lead.now a.payload.now))

pub slice_bounds-seal_text-end : goal.slice_bounds-seal_text-end
slice_bounds-seal_text-end c = omega (arith, fit _ _ _ c.holds.ensures c.if-not-holds.false, c.put_all.auto.room)

-- the part from `at` on is lent, and comes back sealed
lent : (key a iv d y : List ℕ) (at n k : ℕ) → k ≡ n → at + n ≤ length d → y ≡ (seal (cipher key) iv a (part d at k)).bytes
    → take at d ++ (y ++ drop k (drop at d)) ≡ placed d at (seal (cipher key) iv a (part d at n)).bytes
lent key a iv d y at n k ek fits e =
    let long = seal-length (cipher key) (cipher-length key) iv a (part d at n) ∙ length_part d at n fits in
    let same : y ≡ (seal (cipher key) iv a (part d at n)).bytes = e ∙ ap (λ (m : ℕ). (seal (cipher key) iv a (part d at m)).bytes) ek in
    ap₂ (λ (z : List ℕ) (m : ℕ). take at d ++ (z ++ drop m (drop at d))) same ek
    ∙ placed-part d at n (seal (cipher key) iv a (part d at n)).bytes long fits

pub put_all-requires-2 : goal.put_all-requires-2
put_all-requires-2 c =
    let a = c.args in
    let n = length a.lead.now + length a.payload.now in
    let at = length a.a.now + 28 in
    let d = c.put_all.new.room in
    let whole : at + n ≤ length d = omega (arith, fit _ _ _ c.holds.ensures c.if-not-holds.false, c.put_all.auto.room) in
    let twelve : length a.iv ≡ 12 = search rules in
    let sixteen : length c.seal_text-t.result ≡ 16 = search rules in
    let room = lent a.key a.a.now a.iv d _ at n (at + n - at) (omega arith) whole c.seal_text-t.ensures.0 in
    rw append-nil (
    omega (
      arith,
      ap length room,
      length-placed d at (seal (cipher a.key) a.iv a.a.now (part d at n)).bytes,
      length-append a.a.now (a.iv ++ c.seal_text-t.result),
      length-append a.iv c.seal_text-t.result,
    )
    )

pub overflow_add-result : goal.overflow_add-result
unfolding blocks_in
overflow_add-result c = omega arith

pub returns : goal.returns
returns c =
    let a = c.args in
    let text = a.lead.now ++ a.payload.now in
    let twelve : length a.iv ≡ 12 = search rules in
    let long : length text ≡ length a.lead.now + length a.payload.now = length-append a.lead.now a.payload.now in
    let n = length a.lead.now + length a.payload.now in
    let at = length a.a.now + 28 in
    let k = at + n - at in
    let ek : k ≡ n = omega arith in
    let d = c.put_all.new.room in
    let there : at + length text ≤ length a.room.now = omega (arith, fit _ _ _ c.holds.ensures c.if-not-holds.false) in
    let whole : at + n ≤ length d = omega (arith, c.put_all.auto.room) in
    let text_put = rw append-nil at c.put_all.ensures in
    let sealed = lent a.key a.a.now a.iv d _ at n k ek whole c.seal_text-t.ensures.0 in
    let tag = c.seal_text-t.ensures.1 ∙ ap (λ (m : ℕ). (seal (cipher a.key) a.iv a.a.now (part d at m)).tag) ek in
    let front = rw (append-nil, ← append_assoc a.a.now a.iv c.seal_text-t.result) at c.put_all-2.ensures in (
      packet-made a.key a.a.now a.iv text twelve a.room.now there n d _ _ _ (sym long) text_put sealed tag front,
      blocks-made a.key a.a.now a.iv text twelve a.room.now there c.blocks_in.result (c.blocks_in.ensures ∙ ap blocks_in (sym long)),
    )
