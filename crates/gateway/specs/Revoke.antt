-- Document 01: revoke. "Revoke: 39, 14, 15." "Revocation replaces an entry's word by its AND with the given word, at once."
use Rattle.std.specs.Prelude.{ℕ, ◌-◌, not, [], ◌∷◌, Result, Ok, Err}
use Rattle.std.specs.Int.Bits.{bit_and}
use Rattle.octets.specs.Checks.{pick, is_zero, ◌when◌, refusal}
use Rattle.refusal.specs.declared.Refused.{Refused}
use Rattle.refusal.specs.Answer.{Answer, accepted, refused}
use Rattle.state.specs.declared.Rights.{Rights}
use Rattle.state.specs.Flat.{with_word}
use Rattle.state.specs.Sound.{sound_rights}
use Rattle.view.specs.Counted.{no_such}
use Rattle.view.specs.Right.{right_of}
use Rattle.gateway.specs.Common.{plain}
use Rattle.gateway.specs.declared.Done.{Done}

unfoldable pub revoke_refusal : Rights → ℕ → ℕ → ℕ
revoke_refusal r i e = refusal
    (39 when not (sound_rights r)
    ∷ 14 when no_such i r.interfaces
    ∷ 15 when no_such e (right_of r i e).entries
    ∷ [])

-- the answer, and the rights after the call
pub record Revoked : Type 0 where
  pub answer : Answer
  pub rights : Rights

-- read out of what the call hands back, of the rights at entry
abbrev pub revoked_in : Rights → Result (Done Rights) Refused → Revoked
revoked_in r (Ok d) = record { answer = accepted d.blocks; rights = d.after }
revoked_in r (Err e) = record { answer = refused e; rights = r }

-- a refusal changes no word
unfoldable pub revoking : Rights → ℕ → ℕ → ℕ → Revoked
revoking r i e w = record {
  answer = plain (revoke_refusal r i e);
  rights = pick (is_zero (revoke_refusal r i e)) (with_word r (i - 1) (e - 1) (bit_and (right_of r i e).word w)) r;
}
