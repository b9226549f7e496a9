-- The calls and what they are made of: of each public function two outcomes that its contract allows are equal (as in `SettledGround`).
use mathlib.Core.Path.{◌≡◌}
use Rattle.refusal.proofs.NumberLaws.{said-one}
use Rattle.capability.proofs as Capability
use Rattle.view.proofs as View
use Rattle.fields.proofs as Fields
use Rattle.packet.proofs as Packet
use Rattle.command.proofs as Command
use Rattle.command.proofs.HeardLaws.{heard_in-one}
use Rattle.gateway.proofs as Gateway
use Rattle.gateway.proofs.HandedLaws.{changed_in-one, revoked_in-one, requested_in-one, commanded_in-one}
use Rattle.client.proofs as Client
use Rattle.client.proofs.OpenLaws.{opened_in-one}
use Rattle.engine.proofs as Engine
use Rattle.promises.specs.One.{Settles, SettlesResult, SettlesLent, SettlesBoth}
use Rattle.promises.proofs.One.{one, turned, read, read-both}

-- ---- capability

pub four-at-settles : SettlesResult Capability.four_at.Reads.Learnt
four-at-settles κs a x y d e = one

pub permits-settles : SettlesResult Capability.permits.Reads.Learnt
permits-settles κs a x y d e = one

-- a result told field by field
pub right-secret-settles : SettlesResult Capability.right_secret.Reads.Learnt
right-secret-settles κs a x y d e p q = λ i. record { secret = one p.0 q.0 i; blocks = one p.1 q.1 i }

pub issue-settles : SettlesBoth Capability.issue.Reads.Learnt (λ κs d. d.1.1.0.now)
issue-settles κs a x y d e = read-both said-one

pub narrow-settles : SettlesBoth Capability.narrow.Reads.Learnt (λ κs d. d.1.1.0.now)
narrow-settles κs a x y d e = read-both said-one

-- ---- view

pub no-such-settles : SettlesResult View.no_such.Reads.Learnt
no-such-settles κs a x y d e = one

pub see-settles : SettlesResult View.see.Reads.Learnt
see-settles κs a x y d e = one

pub right-at-settles : SettlesResult View.right_at.Reads.Learnt
right-at-settles κs a x y d e = one

-- ---- fields and packet

pub vector-at-settles : SettlesResult Fields.vector_at.Reads.Learnt
vector-at-settles κs a x y d e = one

pub order-of-settles : SettlesResult Fields.order_of.Reads.Learnt
order-of-settles κs a x y d e = one

pub command-lead-settles : SettlesResult Fields.command_lead.Reads.Learnt
command-lead-settles κs a x y d e = one

pub open-lead-settles : SettlesResult Fields.open_lead.Reads.Learnt
open-lead-settles κs a x y d e = one

pub reply-vector-settles : SettlesResult Fields.reply_vector.Reads.Learnt
reply-vector-settles κs a x y d e = one

pub reply-lead-settles : SettlesResult Fields.reply_lead.Reads.Learnt
reply-lead-settles κs a x y d e = one

pub packet-authentic-settles : SettlesResult Packet.authentic.Reads.Learnt
packet-authentic-settles κs a x y d e = one

pub decipher-settles : SettlesLent Packet.decipher.Reads.Learnt (λ κs d. d.1.1.1.1.0.now)
decipher-settles κs a x y d e = one

pub packet-seal-settles : SettlesBoth Packet.seal.Reads.Learnt (λ κs d. d.1.1.1.1.1.0.now)
packet-seal-settles κs a x y d e = turned

-- ---- command

pub hear-settles : SettlesBoth Command.hear.Reads.Learnt (λ κs d. d.1.1.1.0.now)
hear-settles κs a x y d e = read-both heard_in-one

-- ---- gateway

pub request-settles : SettlesBoth Gateway.request.Reads.Learnt (λ κs d. d.1.1.1.1.1.0.now)
request-settles κs a x y d e = read-both (requested_in-one a.1.0)

pub proof-settles : SettlesBoth Gateway.proof.Reads.Learnt (λ κs d. d.1.1.1.1.0.now)
proof-settles κs a x y d e = read-both (changed_in-one a.1.0)

pub command-settles : SettlesBoth Gateway.command.Reads.Learnt (λ κs d. d.1.1.1.0.now)
command-settles κs a x y d e = read-both (commanded_in-one a.1.0)

pub reply-settles : SettlesBoth Gateway.reply.Reads.Learnt (λ κs d. d.1.1.1.1.1.0.now)
reply-settles κs a x y d e = read-both (changed_in-one a.1.0)

pub close-settles : SettlesResult Gateway.close.Reads.Learnt
close-settles κs a x y d e = read (changed_in-one a.1.0)

pub revoke-settles : SettlesResult Gateway.revoke.Reads.Learnt
revoke-settles κs a x y d e = read (revoked_in-one a.0)

-- ---- client

pub seal-command-settles : SettlesBoth Client.seal_command.Reads.Learnt (λ κs d. d.1.1.1.1.1.0.now)
seal-command-settles κs a x y d e = read-both said-one

pub open-reply-settles : SettlesBoth Client.open_reply.Reads.Learnt (λ κs d. d.1.1.1.0.now)
open-reply-settles κs a x y d e = read-both opened_in-one

-- ---- engine

pub dq-aes128-encrypt-settles : SettlesLent Engine.dq_aes128_encrypt.Reads.Learnt (λ κs d. d.1.1.0.now)
dq-aes128-encrypt-settles κs a x y d e = one

pub dq-aes128-prepare-settles : SettlesLent Engine.dq_aes128_prepare.Reads.Learnt (λ κs d. d.1.0.now)
dq-aes128-prepare-settles κs a x y d e = one

pub dq-aes128-encrypt-prepared-settles : SettlesLent Engine.dq_aes128_encrypt_prepared.Reads.Learnt (λ κs d. d.1.1.0.now)
dq-aes128-encrypt-prepared-settles κs a x y d e = one

-- the number, the count, the tag and the room
pub dq-gcm-seal-settles : Settles Engine.dq_gcm_seal.Reads.Learnt (λ κs x y d e. (x ≡ y) × (d.1.1.1.1.1.1.0.now ≡ e.1.1.1.1.1.1.0.now)
    × (d.1.1.1.1.1.0.now ≡ e.1.1.1.1.1.0.now) × (d.1.1.1.1.0.now ≡ e.1.1.1.1.0.now))
dq-gcm-seal-settles κs a x y d e p q = (one p.0 q.0, one p.1 q.1, one p.2 q.2, one p.3 q.3)

-- the number, the count and the room
pub dq-gcm-open-settles : Settles Engine.dq_gcm_open.Reads.Learnt (λ κs x y d e. (x ≡ y) × (d.1.1.1.1.1.1.0.now ≡ e.1.1.1.1.1.1.0.now)
    × (d.1.1.1.1.1.0.now ≡ e.1.1.1.1.1.0.now))
dq-gcm-open-settles κs a x y d e p q = (one p.0 q.0, one p.1 q.1, one p.2 q.2)
