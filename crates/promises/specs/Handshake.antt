-- Document 01, "Handshake": "Request: major 1 (1 byte), minor 0 (1 byte), name length (2), challenge 1 (16), name. The caller lends 16 fresh bytes as
-- challenge 2." "Proof: host number from the channel, and 32 bytes: challenge 2, challenge 3." What makes a handshake well made, and what it leaves.
use Rattle.std.specs.Prelude.{◌≡◌, ◌≢◌, true, false, List, ℕ, ◌+◌, ◌≤◌, length, drop, replicate}
use Rattle.octets.specs.Room.{number_at}
use Rattle.aes.specs.Cipher.{cipher}
use Rattle.state.specs.declared.State.{State}
use Rattle.state.specs.declared.transitions.Phase.TheVariants.{Open}
use Rattle.state.specs.Sound.{sound_rights}
use Rattle.gateway.specs.Request.{found}
use Rattle.promises.specs.Places.{record_at}
use Rattle.promises.specs.Typed.{Typed}

-- the packet p asks for that name; major 1 and minor 0 are the number 1, the lowest byte first
pub record AsksFor (p name : List ℕ) : Type 0 where
  pub some : 1 ≤ length name
  pub few : length name ≤ 256
  pub size : length p ≡ 20 + length name
  pub version : number_at p 0 2 ≡ 1
  pub counted : number_at p 2 2 ≡ length name
  pub named : drop 20 p ≡ name

-- the packet p asks a sound state for the name of its host h; then f is challenge 2, c is challenge 3, and the lent rooms are of m and of n bytes
pub record Handshake (s : State) (h : ℕ) (name p f c : List ℕ) (m n : ℕ) : Type 0 where
  pub typed : Typed s
  pub sound : sound_rights s.rights ≡ true
  pub host : found s.rights s.names name ≡ h
  pub there : 1 ≤ h
  pub asks : AsksFor p name
  pub second : length f ≡ 16
  pub third : length c ≡ 16
  pub asked_room : 32 ≤ m
  pub proved_room : 20 ≤ n

-- "The record becomes open with last number 0 and no reply owed. Key: the AES-128 encryption of block challenge 3 under key challenge 2.": t is
-- what it leaves of s, with all else as it was
pub record HandshakeLeaves (s : State) (h : ℕ) (f c : List ℕ) (t : State) : Type 0 where
  pub own : record_at t h ≡ record { phase = Open 0 false; challenge = replicate 16 0; key = cipher f c }
  pub others : (k : ℕ) → 1 ≤ k → h ≢ k → record_at t k ≡ record_at s k
  pub rights : t.rights ≡ s.rights
  pub names : t.names ≡ s.names
  pub labels : t.labels ≡ s.labels
