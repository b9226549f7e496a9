-- C's names have the contracts of `engine`: each contract here, as the check makes it of the source, is `engine`'s own at every model. So what is proved
-- of those, as that each allows one result (promises/proofs/SettledCalls), is proved of the functions that are linked.
use mathlib.Core.Path.{◌≡◌, refl}
use seplogic.Ra.Ura.{Ura}
use types.Logic.{Logic}
use Rattle.engine.specs.contracts as own
use Rattle.engine_c.specs.contracts as linked

module _ {M : Type 1} {𝓤 : Ura M} (𝓛 : Logic 𝓤) where
  pub dq-aes128-encrypt-same : linked.dq_aes128_encrypt.clauses 𝓛 ≡ own.dq_aes128_encrypt.clauses 𝓛
  dq-aes128-encrypt-same = refl

  pub dq-aes128-prepare-same : linked.dq_aes128_prepare.clauses 𝓛 ≡ own.dq_aes128_prepare.clauses 𝓛
  dq-aes128-prepare-same = refl

  pub dq-aes128-encrypt-prepared-same : linked.dq_aes128_encrypt_prepared.clauses 𝓛 ≡ own.dq_aes128_encrypt_prepared.clauses 𝓛
  dq-aes128-encrypt-prepared-same = refl

  pub dq-gcm-seal-same : linked.dq_gcm_seal.clauses 𝓛 ≡ own.dq_gcm_seal.clauses 𝓛
  dq-gcm-seal-same = refl

  pub dq-gcm-open-same : linked.dq_gcm_open.clauses 𝓛 ≡ own.dq_gcm_open.clauses 𝓛
  dq-gcm-open-same = refl
