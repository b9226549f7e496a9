-- `command::finish` meets its contract: by whether the secret is the one at the end of the chain.
use borrow.Author.Rules.{rules}
use mathlib.Core.Path.{◌≡◌, refl, sym, ap, ap₂, ◌∙◌}
use mathlib.Core.List.{List}
use Prim.Native.Nat.{ℕ, ◌+◌}
use native.Mathlib.Omega.{arith}
use lib.ListN.{length}
use Rattle.octets.specs.Room.{placed}
use Rattle.octets.proofs.RoomLaws.{part-rest}
use Rattle.aes.specs.Prepared.{under}
use Rattle.aes.proofs.CipherLaws.{under-length}
use Rattle.gcm.specs.Gctr.{gctr}
use Rattle.gcm.specs.Gcm.{counter}
use Rattle.command.specs.Heard.{no_order}
use Rattle.command.proofs.HeardLaws.{payload-read, secret-wrong, secret-right, right-few}
use Rattle.command.proofs.Sealed.finish.Goals as goal

-- the order has four words, and the chain as many blocks as right words, and one
pub overflow_add-blocks : goal.overflow_add-blocks
overflow_add-blocks c =
    let a = c.args in
    let four : length a.o.words ≡ 4 = search rules in
    omega (arith, c.right_secret-right.ensures.1, right-few a.f.secret a.o.capability a.o.words)

pub returns-then-not-equal : goal.returns-then-not-equal
returns-then-not-equal c =
    let a = c.args in
    let wrong = sym c.equal.ensures ∙ c.if-not-equal.true in
    rw (secret-wrong a.f a.o c.right_secret-right.result.secret c.right_secret-right.ensures.0 wrong)
    (ap (λ (n : ℕ). record { number = 19; blocks = a.count + n; order = no_order }) c.right_secret-right.ensures.1, refl)

pub returns : goal.returns
returns c =
    let a = c.args in
    let p = a.self.now.p.now in
    let s = a.self.now.packet.now in
    let right = sym c.equal.ensures ∙ c.if-not-equal.false in
    rw (secret-right a.f a.o c.right_secret-right.result.secret c.right_secret-right.ensures.0 right) (
      ap (λ (n : ℕ). record { number = 0; blocks = a.count + n; order = a.o }) c.right_secret-right.ensures.1,
      c.decipher.ensures
          ∙ ap₂ (λ (iv x : List ℕ). placed a.room.now 0 (gctr (under p) (counter iv 6) x).bytes) c.vector_at.ensures (part-rest s 96)
          ∙ ap (placed a.room.now 0) (payload-read (under p) (under-length p) s a.self.now.long),
    )
