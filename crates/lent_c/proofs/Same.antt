-- C's names have the contracts of `lent`: each contract here, as the check makes it of the source, is `lent`'s own at every model. So what is proved of
-- those, as that each allows one result (lent/proofs/Settled), is proved of the calls that firmware links.
use mathlib.Core.Path.{◌≡◌, refl}
use seplogic.Ra.Ura.{Ura}
use types.Logic.{Logic}
use Rattle.lent.specs.contracts as own
use Rattle.lent_c.specs.contracts as linked

module _ {M : Type 1} {𝓤 : Ura M} (𝓛 : Logic 𝓤) where
  pub dq-load-same : linked.dq_load.clauses 𝓛 ≡ own.dq_load.clauses 𝓛
  dq-load-same = refl

  pub dq-request-same : linked.dq_request.clauses 𝓛 ≡ own.dq_request.clauses 𝓛
  dq-request-same = refl

  pub dq-proof-same : linked.dq_proof.clauses 𝓛 ≡ own.dq_proof.clauses 𝓛
  dq-proof-same = refl

  pub dq-command-same : linked.dq_command.clauses 𝓛 ≡ own.dq_command.clauses 𝓛
  dq-command-same = refl

  pub dq-reply-same : linked.dq_reply.clauses 𝓛 ≡ own.dq_reply.clauses 𝓛
  dq-reply-same = refl

  pub dq-close-same : linked.dq_close.clauses 𝓛 ≡ own.dq_close.clauses 𝓛
  dq-close-same = refl

  pub dq-revoke-same : linked.dq_revoke.clauses 𝓛 ≡ own.dq_revoke.clauses 𝓛
  dq-revoke-same = refl

  pub dq-connection-key-same : linked.machine.dq_connection_key.clauses 𝓛 ≡ own.machine.dq_connection_key.clauses 𝓛
  dq-connection-key-same = refl

  pub dq-issue-same : linked.machine.dq_issue.clauses 𝓛 ≡ own.machine.dq_issue.clauses 𝓛
  dq-issue-same = refl

  pub dq-narrow-same : linked.machine.dq_narrow.clauses 𝓛 ≡ own.machine.dq_narrow.clauses 𝓛
  dq-narrow-same = refl

  pub dq-seal-command-same : linked.machine.dq_seal_command.clauses 𝓛 ≡ own.machine.dq_seal_command.clauses 𝓛
  dq-seal-command-same = refl

  pub dq-open-reply-same : linked.machine.dq_open_reply.clauses 𝓛 ≡ own.machine.dq_open_reply.clauses 𝓛
  dq-open-reply-same = refl
