-- The step of specs/Step is what the contracts of the server's calls say, so that what is promised of the step is promised of the code. `Reads.Learnt` is a
-- contract as the check reads it out of the source: of a call with the arguments a, in their order, its result x and its parameters d at exit. A
-- call by value reads parts of a state and returns the one that it changed; s is a state of which the arguments are parts, and `next` is s with that
-- part. What an answer says, and the part after a refusal, is read out of x as the contract reads it.
use mathlib.Core.Path.{◌≡◌, refl}
use contract.Lifetimes.{Lfts}
use Rattle.gateway.proofs as Gateway
use Rattle.state.specs.declared.State.{State}
use Rattle.gateway.specs.Common.{changed_in}
use Rattle.gateway.specs.Request.{requested_in}
use Rattle.gateway.specs.Command.{commanded_in, commanding}
use Rattle.gateway.specs.Revoke.{revoked_in}
use Rattle.promises.specs.Step.{request, proof, command, reply, close, revoke, answer, next}

module _ (s : State) where
  pub request-steps : (κs : Lfts 4) (a : _) (x : _) (d : _) → Gateway.request.Reads.Learnt κs a x d
      → s.rights ≡ a.0 → s.records ≡ a.1.0 → s.names ≡ a.1.1.0.now
      → let c = request a.1.1.1.0.now a.1.1.1.1.0.now a.1.1.1.1.1.0.now in let y = requested_in a.1.0 x in
      (y.answer.number ≡ (answer s c).number) × (y.answer.blocks ≡ (answer s c).blocks) × (y.host ≡ (answer s c).host)
      × (y.records ≡ (next s c).records) × (d.1.1.1.1.1.0.now ≡ (answer s c).room)
  unfolding answer next
  request-steps κs a x d e p q r = rw (p, q, r, e.0, e.1) (refl, refl, refl, refl, refl)

  pub proof-steps : (κs : Lfts 2) (a : _) (x : _) (d : _) → Gateway.proof.Reads.Learnt κs a x d
      → s.rights ≡ a.0 → s.records ≡ a.1.0
      → let c = proof a.1.1.0 a.1.1.1.0.now a.1.1.1.1.0.now in let y = changed_in a.1.0 x in
      (y.answer.number ≡ (answer s c).number) × (y.answer.blocks ≡ (answer s c).blocks)
      × (y.records ≡ (next s c).records) × (d.1.1.1.1.0.now ≡ (answer s c).room)
  unfolding answer next
  proof-steps κs a x d e p q = rw (p, q, e.0, e.1) (refl, refl, refl, refl)

  pub command-steps : (κs : Lfts 2) (a : _) (x : _) (d : _) → Gateway.command.Reads.Learnt κs a x d
      → s.rights ≡ a.0 → s.records ≡ a.1.0
      → let c = command a.1.1.0.now a.1.1.1.0.now in let y = commanded_in a.1.0 x in
      (y.heard.number ≡ (answer s c).number) × (y.heard.blocks ≡ (answer s c).blocks) × (y.heard.order ≡ (answer s c).order)
      × (y.records ≡ (next s c).records) × (d.1.1.1.0.now ≡ (answer s c).room)
  unfolding answer next commanding
  command-steps κs a x d e p q = rw (p, q, e.0, e.1) (refl, refl, refl, refl, refl)

  pub reply-steps : (κs : Lfts 2) (a : _) (x : _) (d : _) → Gateway.reply.Reads.Learnt κs a x d
      → s.rights ≡ a.0 → s.records ≡ a.1.0
      → let c = reply a.1.1.0 a.1.1.1.0 a.1.1.1.1.0.now a.1.1.1.1.1.0.now in let y = changed_in a.1.0 x in
      (y.answer.number ≡ (answer s c).number) × (y.answer.blocks ≡ (answer s c).blocks)
      × (y.records ≡ (next s c).records) × (d.1.1.1.1.1.0.now ≡ (answer s c).room)
  unfolding answer next
  reply-steps κs a x d e p q = rw (p, q, e.0, e.1) (refl, refl, refl, refl)

  pub close-steps : (κs : Lfts 0) (a : _) (x : _) (d : _) → Gateway.close.Reads.Learnt κs a x d
      → s.rights ≡ a.0 → s.records ≡ a.1.0
      → let c = close a.1.1.0 in let y = changed_in a.1.0 x in
      (y.answer.number ≡ (answer s c).number) × (y.answer.blocks ≡ (answer s c).blocks) × (y.records ≡ (next s c).records)
  unfolding answer next
  close-steps κs a x d e p q = rw (p, q, e) (refl, refl, refl)

  pub revoke-steps : (κs : Lfts 0) (a : _) (x : _) (d : _) → Gateway.revoke.Reads.Learnt κs a x d
      → s.rights ≡ a.0
      → let c = revoke a.1.0 a.1.1.0 a.1.1.1.0 in let y = revoked_in a.0 x in
      (y.answer.number ≡ (answer s c).number) × (y.answer.blocks ≡ (answer s c).blocks) × (y.rights ≡ (next s c).rights)
  unfolding answer next
  revoke-steps κs a x d e p = rw (p, e) (refl, refl, refl)
