-- What the code's types say of a state: every call keeps it. (It holds of every loaded state: `typed-loaded` in Books.)
use mathlib.Core.Path.{◌≡◌}
use mathlib.Core.List.{List, [], ◌∷◌}
use Prim.Native.Nat.{◌-◌}
use lib.ListN.{length, length-set}
use Rattle.octets.specs.Checks.{is_zero}
use Rattle.octets.proofs.CheckLaws.{pick_ind}
use Rattle.state.specs.declared.State.{State}
use Rattle.state.specs.declared.Rights.{Rights}
use Rattle.state.proofs.SoundLaws.{word-ind}
use Rattle.gateway.specs.Revoke.{revoke_refusal, revoking}
use Rattle.promises.specs.Step.{Call, request, proof, command, reply, close, revoke, next}
use Rattle.promises.specs.Series.{after}
use Rattle.promises.specs.Typed.{Typed}
use Rattle.promises.proofs.Hosts.{rights-ind}
use Rattle.promises.proofs.Own.{sized-kept}

pub words-kept : (s : State) (k : Call) → length s.rights.words ≡ 128 → length (next s k).rights.words ≡ 128
unfolding next revoking
words-kept s (request p f room) l = l
words-kept s (proof h p room) l = l
words-kept s (command p room) l = l
words-kept s (reply h n pay room) l = l
words-kept s (close h) l = l
words-kept s (revoke i e w) l =
    pick_ind (λ (t : Rights). length t.words ≡ 128) (is_zero (revoke_refusal s.rights i e))
    (λ q. word-ind s.rights (i - 1) (e - 1) _ (λ t. length t.words ≡ 128) (λ a b. simp length-set l) l) l

pub typed-kept : (s : State) (c : Call) → Typed s → Typed (next s c)
typed-kept s c h = record {
  words = words-kept s c h.words;
  secrets = rights-ind s c (λ r. length r.secrets ≡ 128) (λ ws. h.secrets);
  records = sized-kept s c h.records;
}

pub typed-series : (s : State) (cs : List Call) → Typed s → Typed (after s cs)
unfolding after
typed-series s [] h = h
typed-series s (c ∷ cs) h = typed-series (next s c) cs (typed-kept s c h)
