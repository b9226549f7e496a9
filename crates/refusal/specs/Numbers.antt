-- Document 01, "Numbers of refusal": the number of each refusal, in the words of its table.
use Rattle.std.specs.Prelude.{ℕ, Result, Ok, Err}
use Rattle.refusal.specs.declared.Refusal.{Refusal}
use Rattle.refusal.specs.declared.Refusal.TheVariants.{
  Below,
  Above,
  Zeros,
  NoHost,
  Vector,
  NotOpen,
  RoomShort,
  TagWrong,
  ClientDiffers,
  InnerZeros,
  LengthField,
  NotFresh,
  Group,
  NoInterface,
  NoEntry,
  EntryGroup,
  NoCommand,
  NotPermitted,
  SecretWrong,
  RequestLength,
  Version,
  NameLength,
  NoName,
  ProofLength,
  NotWaiting,
  ChallengeDiffers,
  LengthWrong,
  NotOwed,
  PayloadAbove,
  NoPlaceLeft,
  AllOnes,
  Unsound,
  Size,
  Format,
  Rows,
  KindOrId,
  StartOrLength,
  Counts,
  Permitted,
  Letter,
  NameUsed,
}

abbrev pub refusal_number : Refusal → ℕ
-- packet below 96 bytes (reply: 32)
refusal_number Below = 1
-- packet above 16,480 bytes (reply: 16,416)
refusal_number Above = 2
-- bytes 2, 3 not zero
refusal_number Zeros = 3
-- client ID or host number 0 or above the host count
refusal_number NoHost = 4
-- vector byte 0 is 128 or more (reply: vector not that of the expected number)
refusal_number Vector = 5
-- host not open
refusal_number NotOpen = 6
-- lent room too short for what acceptance writes (command: packet length less 96; opening a reply: less 32)
refusal_number RoomShort = 7
-- tag wrong
refusal_number TagWrong = 8
-- inner client ID differs
refusal_number ClientDiffers = 9
-- inner zeros not zero
refusal_number InnerZeros = 10
-- payload length field isn't what the packet carries
refusal_number LengthField = 11
-- number not fresh (reply: not the expected one; sealing: 0)
refusal_number NotFresh = 12
-- group not 0 and not the host's
refusal_number Group = 13
-- no such interface
refusal_number NoInterface = 14
-- no such entry (issuing: ID 0)
refusal_number NoEntry = 15
-- entry's group not 0 and not the packet's
refusal_number EntryGroup = 16
-- command ID not below the command count
refusal_number NoCommand = 17
-- not permitted
refusal_number NotPermitted = 18
-- secret wrong
refusal_number SecretWrong = 19
-- request below 21 or above 276 bytes
refusal_number RequestLength = 20
-- version not 1.0
refusal_number Version = 21
-- name length isn't the length less 20
refusal_number NameLength = 22
-- no such host name
refusal_number NoName = 23
-- proof not 32 bytes
refusal_number ProofLength = 25
-- host not waiting
refusal_number NotWaiting = 26
-- challenge 2 differs
refusal_number ChallengeDiffers = 27
-- a lent secret, key, vector, capability or fresh bytes of wrong length
refusal_number LengthWrong = 28
-- no reply owed for that number
refusal_number NotOwed = 29
-- payload above 16,384 bytes
refusal_number PayloadAbove = 30
-- no all-ones word left
refusal_number NoPlaceLeft = 31
-- narrowing by an all-ones word
refusal_number AllOnes = 32
-- state not sound
refusal_number Unsound = 39
-- book below 8 or above 12,232 bytes, or total not the length
refusal_number Size = 40
-- format not 1
refusal_number Format = 41
-- rows 0, above 40, or past the end
refusal_number Rows = 42
-- a row's kind, its order or its limit, or its id
refusal_number KindOrId = 43
-- a row's start, or its length out of range, past the total, or the last row not ending there
refusal_number StartOrLength = 44
-- command count, entry count, or entries that leave no name or one above 256
refusal_number Counts = 45
-- a permitted bit at or above the command count
refusal_number Permitted = 46
-- bad letter in a name
refusal_number Letter = 47
-- name used before in its kind
refusal_number NameUsed = 48

-- "Every answer carries a number (0 for accepted)"
abbrev pub number_of : {A : Type 0} → Result A Refusal → ℕ
number_of (Ok a) = 0
number_of (Err r) = refusal_number r
