-- What stands below the calls, from bytes to GCM: of each public function two outcomes that its contract allows are equal. The parameters at exit
-- stand in the order of the signature, the first at .0 and each later one behind one more.1; `now` is what a reference holds.
use mathlib.Core.Path.{◌≡◌}
use mir.Val.{Fits}
use mir.Syntax.{w64}
use native.Mathlib.Omega.{arith}
use Prim.Native.Nat.{ℕ}
use Rattle.octets.proofs as Octets
use Rattle.refusal.proofs as Refusal
use Rattle.aes.proofs as Aes
use Rattle.ghash.proofs as Ghash
use Rattle.gcm.proofs as Gcm
use Rattle.gcm.proofs.AnswerLaws.{sealed_in-one, opened_in-one}
use Rattle.promises.specs.One.{Settles, SettlesResult, SettlesLent, SettlesBoth}
use Rattle.promises.proofs.One.{one, both, turned}

-- ---- octets

-- of what is handed back, the bytes: where they stand is left open
pub part-settles : Settles Octets.part.Reads.Learnt (λ κs x y d e. x.now ≡ y.now)
part-settles κs a x y d e = one

pub u8-at-settles : SettlesResult Octets.U8Little.at.Reads.Learnt
u8-at-settles κs a x y d e = one

pub u16-at-settles : SettlesResult Octets.U16Little.at.Reads.Learnt
u16-at-settles κs a x y d e = one

pub u32-at-settles : SettlesResult Octets.U32Little.at.Reads.Learnt
u32-at-settles κs a x y d e = one

pub u64-at-settles : SettlesResult Octets.U64Little.at.Reads.Learnt
u64-at-settles κs a x y d e = one

pub put-settles : SettlesLent Octets.put.Reads.Learnt (λ κs d. d.0.now)
put-settles κs a x y d e = one

-- for every number of bytes, sixteen among them
pub bytes-at-settles : (n : ℕ) (h : _) → SettlesResult (Octets.bytes_at.Reads.Learnt n h)
bytes-at-settles n h κs a x y d e = one

pub sixteen-fits : Fits w64 16
sixteen-fits = omega arith

pub sixteen-settles : SettlesResult (Octets.bytes_at.Reads.Learnt 16 sixteen-fits)
sixteen-settles = bytes-at-settles 16 sixteen-fits

pub put-u8-settles : SettlesLent Octets.U8Little.put_at.Reads.Learnt (λ κs d. d.1.0.now)
put-u8-settles κs a x y d e = one

pub put-u16-settles : SettlesLent Octets.U16Little.put_at.Reads.Learnt (λ κs d. d.1.0.now)
put-u16-settles κs a x y d e = one

pub put-u32-settles : SettlesLent Octets.U32Little.put_at.Reads.Learnt (λ κs d. d.1.0.now)
put-u32-settles κs a x y d e = one

pub put-u64-settles : SettlesLent Octets.U64Little.put_at.Reads.Learnt (λ κs d. d.1.0.now)
put-u64-settles κs a x y d e = one

pub equal-settles : SettlesResult Octets.equal.Reads.Learnt
equal-settles κs a x y d e = one

pub between-settles : SettlesResult Octets.between.Reads.Learnt
between-settles κs a x y d e = one

pub word-fits-settles : SettlesResult Octets.word_fits.Reads.Learnt
word-fits-settles κs a x y d e = one

-- ---- refusal

pub number-settles : SettlesResult Refusal.Refusal.number.Reads.Learnt
number-settles κs a x y d e = one

pub from-settles : SettlesResult Refusal.RefusedFromRefusal.from.Reads.Learnt
from-settles κs a x y d e = one

-- ---- aes

pub prepare-settles : SettlesResult Aes.prepare.Reads.Learnt
prepare-settles κs a x y d e = one

pub encrypt-prepared-settles : SettlesResult Aes.encrypt_prepared.Reads.Learnt
encrypt-prepared-settles κs a x y d e = one

pub encrypt-settles : SettlesResult Aes.encrypt.Reads.Learnt
encrypt-settles κs a x y d e = one

-- ---- ghash

pub hash-settles : SettlesResult Ghash.hash.Reads.Learnt
hash-settles κs a x y d e = one

-- ---- gcm

pub blocks-in-settles : SettlesResult Gcm.blocks_in.Reads.Learnt
blocks-in-settles κs a x y d e = one

pub crypt-settles : SettlesBoth Gcm.crypt.Reads.Learnt (λ κs d. d.1.1.1.0.now)
crypt-settles κs a x y d e = turned

pub tag-settles : SettlesResult Gcm.tag.Reads.Learnt
tag-settles κs a x y d e = one

pub authentic-settles : SettlesResult Gcm.authentic.Reads.Learnt
authentic-settles κs a x y d e = one

pub seal-in-place-settles : SettlesBoth Gcm.seal_in_place.Reads.Learnt (λ κs d. d.1.1.1.1.0.now)
seal-in-place-settles κs a x y d e = turned

pub seal-settles : SettlesBoth Gcm.seal.Reads.Learnt (λ κs d. d.1.1.1.1.0.now)
seal-settles κs a x y d e p q = (sealed_in-one x y (one p.0 q.0), one p.1 q.1)

pub open-settles : SettlesBoth Gcm.open.Reads.Learnt (λ κs d. d.1.1.1.1.1.0.now)
open-settles κs a x y d e p q = (opened_in-one x y (one p.0 q.0), one p.1 q.1)
