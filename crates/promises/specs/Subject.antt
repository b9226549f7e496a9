-- The number of the host whose record a call may change: "The host named (the lowest, if a lent state repeats a name)", the number that a proof, a
-- reply or a close gives, the client ID in a command's open part; 0 if there is none, as for a revocation.
use Rattle.std.specs.Prelude.{◌≢◌, List, [], ◌∷◌, ℕ}
use Rattle.state.specs.declared.State.{State}
use Rattle.fields.specs.Command.{client_of}
use Rattle.gateway.specs.Request.{found, asked}
use Rattle.promises.specs.Step.{Call, request, proof, command, reply, close, revoke}

abbrev pub subject : State → Call → ℕ
subject s (request p f room) = found s.rights s.names (asked p)
subject s (proof h p room) = h
subject s (command p room) = client_of p
subject s (reply h n pay room) = h
subject s (close h) = h
subject s (revoke i e w) = 0

-- no call of a series that starts in s is one that may change the record of host h: s can tell, for no call changes names or numbers (proofs/Lasting, `subject-kept`)
abbrev pub NoneAbout : ℕ → State → List Call → Type 0
NoneAbout h s [] = Unit
NoneAbout h s (c ∷ cs) = (subject s c ≢ h) × NoneAbout h s cs
