-- Document 01: request. "Request: 39, 28, 20, 21, 22, 23, 7." "Request: major 1 (1 byte), minor 0 (1 byte), name length (2), challenge 1 (16),
-- name. The caller lends 16 fresh bytes as challenge 2. Written: challenge 1, challenge 2 (32 bytes). The host named (the lowest, if a lent
-- state repeats a name) becomes waiting; an earlier connection ends there."
use Rattle.std.specs.Prelude.{ℕ, zero, suc, ◌+◌, ◌*◌, ◌-◌, not, List, [], ◌∷◌, ◌++◌, eqb, ltb, length, get_or, drop, Option, Some, None, Result, Ok, Err}
use Rattle.octets.specs.Checks.{pick, is_zero, ◌when◌, refusal, ◌then◌}
use Rattle.octets.specs.Little.{number}
use Rattle.octets.specs.Range.{between}
use Rattle.octets.specs.Room.{part, number_at}
use Rattle.octets.specs.Same.{same}
use Rattle.capability.specs.Calls.{written}
use Rattle.refusal.specs.declared.Refused.{Refused}
use Rattle.refusal.specs.Answer.{Answer, accepted, refused}
use Rattle.state.specs.declared.Rights.{Rights}
use Rattle.state.specs.declared.Records.{Records}
use Rattle.state.specs.Records.{requested}
use Rattle.state.specs.Sound.{sound_rights}
use Rattle.gateway.specs.Common.{plain, moved}
use Rattle.gateway.specs.declared.requesting.Requested as Code

-- the name of the host at place i
unfoldable pub name_at : Rights → List ℕ → ℕ → List ℕ
name_at r names i = part names (i * 256) (get_or r.sizes i 0)

-- the number of the lowest host of that name among the k hosts from place i on; 0 if there is none
unfoldable pub found_from : Rights → List ℕ → List ℕ → ℕ → ℕ → ℕ
found_from r names name i zero = 0
found_from r names name i (suc k) = pick (same (name_at r names i) name) (i + 1) (found_from r names name (i + 1) k)

unfoldable pub found : Rights → List ℕ → List ℕ → ℕ
found r names name = found_from r names name 0 r.hosts

-- the host of that number: 0 is none
abbrev pub host_of : ℕ → Option ℕ
host_of zero = None
host_of (suc n) = Some (suc n)

-- major 1 in the first byte, minor 0 in the second
abbrev pub version : ℕ
version = number (1 ∷ 0 ∷ [])

-- a request's name
abbrev pub asked : List ℕ → List ℕ
asked p = drop 20 p

-- what is judged before the name
unfoldable pub form_refusal : Rights → List ℕ → List ℕ → ℕ
form_refusal r p fresh = refusal
    (39 when not (sound_rights r)
    ∷ 28 when not (eqb (length fresh) 16)
    ∷ 20 when not (between 21 276 (length p))
    ∷ 21 when not (eqb (number_at p 0 2) version)
    ∷ 22 when not (eqb (number_at p 2 2) (length p - 20))
    ∷ [])

unfoldable pub request_refusal : Rights → List ℕ → List ℕ → List ℕ → ℕ → ℕ
request_refusal r names p fresh room =
    form_refusal r p fresh
    then refusal (23 when is_zero (found r names (asked p)) ∷ 7 when ltb room 32 ∷ [])

-- the answer and the host's number, and the records after the call
pub record Requested : Type 0 where
  pub answer : Answer
  pub host : ℕ
  pub records : Records

-- read out of what the call hands back, of the records at entry: a refusal gives host 0
abbrev pub requested_in : Records → Result Code.Requested Refused → Requested
requested_in s (Ok r) = record { answer = accepted r.blocks; host = r.host; records = r.records }
requested_in s (Err e) = record { answer = refused e; host = 0; records = s }

unfoldable pub requesting : Rights → Records → List ℕ → List ℕ → List ℕ → ℕ → Requested
requesting r s names p fresh room = record {
  answer = plain (request_refusal r names p fresh room);
  host = pick (is_zero (request_refusal r names p fresh room)) (found r names (asked p)) 0;
  records = moved (request_refusal r names p fresh room) s (found r names (asked p)) (requested fresh);
}

-- the lent room after the call
unfoldable pub request_room : Rights → List ℕ → List ℕ → List ℕ → List ℕ → List ℕ
request_room r names p fresh room = written (request_refusal r names p fresh (length room)) (part p 4 16 ++ fresh) room
