-- Laws of the numbers of refusal: none is 0, and each is the number of one refusal, so that an answer's number settles what a call hands back.
use mathlib.Core.Path.{refl, sym, ap, ◌∙◌}
use Rattle.std.specs.Prelude.{◌≡◌, ℕ, false, eqb, Result, Ok, Err}
use mathlib.Core.Bool.{false≢true}
use Rattle.octets.specs.Checks.{pick, is_zero}
use Rattle.refusal.specs.declared.Refusal.{Refusal}
use Rattle.refusal.specs.declared.Refusal.TheVariants.{
  Below,
  Above,
  Zeros,
  NoHost,
  Vector,
  NotOpen,
  RoomShort,
  TagWrong,
  ClientDiffers,
  InnerZeros,
  LengthField,
  NotFresh,
  Group,
  NoInterface,
  NoEntry,
  EntryGroup,
  NoCommand,
  NotPermitted,
  SecretWrong,
  RequestLength,
  Version,
  NameLength,
  NoName,
  ProofLength,
  NotWaiting,
  ChallengeDiffers,
  LengthWrong,
  NotOwed,
  PayloadAbove,
  NoPlaceLeft,
  AllOnes,
  Unsound,
  Size,
  Format,
  Rows,
  KindOrId,
  StartOrLength,
  Counts,
  Permitted,
  Letter,
  NameUsed,
}
use Rattle.refusal.specs.declared.Refused.{Refused}
use Rattle.refusal.specs.Numbers.{refusal_number, number_of}
use Rattle.refusal.specs.Answer.{Answer, said}

-- none is 0, which means accepted
pub refusal-above : (r : Refusal) → is_zero (refusal_number r) ≡ false
refusal-above Below = refl
refusal-above Above = refl
refusal-above Zeros = refl
refusal-above NoHost = refl
refusal-above Vector = refl
refusal-above NotOpen = refl
refusal-above RoomShort = refl
refusal-above TagWrong = refl
refusal-above ClientDiffers = refl
refusal-above InnerZeros = refl
refusal-above LengthField = refl
refusal-above NotFresh = refl
refusal-above Group = refl
refusal-above NoInterface = refl
refusal-above NoEntry = refl
refusal-above EntryGroup = refl
refusal-above NoCommand = refl
refusal-above NotPermitted = refl
refusal-above SecretWrong = refl
refusal-above RequestLength = refl
refusal-above Version = refl
refusal-above NameLength = refl
refusal-above NoName = refl
refusal-above ProofLength = refl
refusal-above NotWaiting = refl
refusal-above ChallengeDiffers = refl
refusal-above LengthWrong = refl
refusal-above NotOwed = refl
refusal-above PayloadAbove = refl
refusal-above NoPlaceLeft = refl
refusal-above AllOnes = refl
refusal-above Unsound = refl
refusal-above Size = refl
refusal-above Format = refl
refusal-above Rows = refl
refusal-above KindOrId = refl
refusal-above StartOrLength = refl
refusal-above Counts = refl
refusal-above Permitted = refl
refusal-above Letter = refl
refusal-above NameUsed = refl

pub above-zero : (r : Refusal) → refusal_number r ≡ 0 → ⊥
above-zero r e = false≢true (sym (refusal-above r) ∙ ap is_zero e)

-- the refusal of a number; any where there is none
abbrev of_number : ℕ → Refusal
of_number n =
    pick (eqb n 1) Below (
    pick (eqb n 2) Above (
    pick (eqb n 3) Zeros (
    pick (eqb n 4) NoHost (
    pick (eqb n 5) Vector (
    pick (eqb n 6) NotOpen (
    pick (eqb n 7) RoomShort (
    pick (eqb n 8) TagWrong (
    pick (eqb n 9) ClientDiffers (
    pick (eqb n 10) InnerZeros (
    pick (eqb n 11) LengthField (
    pick (eqb n 12) NotFresh (
    pick (eqb n 13) Group (
    pick (eqb n 14) NoInterface (
    pick (eqb n 15) NoEntry (
    pick (eqb n 16) EntryGroup (
    pick (eqb n 17) NoCommand (
    pick (eqb n 18) NotPermitted (
    pick (eqb n 19) SecretWrong (
    pick (eqb n 20) RequestLength (
    pick (eqb n 21) Version (
    pick (eqb n 22) NameLength (
    pick (eqb n 23) NoName (
    pick (eqb n 25) ProofLength (
    pick (eqb n 26) NotWaiting (
    pick (eqb n 27) ChallengeDiffers (
    pick (eqb n 28) LengthWrong (
    pick (eqb n 29) NotOwed (
    pick (eqb n 30) PayloadAbove (
    pick (eqb n 31) NoPlaceLeft (
    pick (eqb n 32) AllOnes (
    pick (eqb n 39) Unsound (
    pick (eqb n 40) Size (
    pick (eqb n 41) Format (
    pick (eqb n 42) Rows (
    pick (eqb n 43) KindOrId (
    pick (eqb n 44) StartOrLength (
    pick (eqb n 45) Counts (
    pick (eqb n 46) Permitted (
    pick (eqb n 47) Letter (
    pick (eqb n 48) NameUsed (Below)))))))))))))))))))))))))))))))))))))))))

of-number : (r : Refusal) → of_number (refusal_number r) ≡ r
of-number Below = refl
of-number Above = refl
of-number Zeros = refl
of-number NoHost = refl
of-number Vector = refl
of-number NotOpen = refl
of-number RoomShort = refl
of-number TagWrong = refl
of-number ClientDiffers = refl
of-number InnerZeros = refl
of-number LengthField = refl
of-number NotFresh = refl
of-number Group = refl
of-number NoInterface = refl
of-number NoEntry = refl
of-number EntryGroup = refl
of-number NoCommand = refl
of-number NotPermitted = refl
of-number SecretWrong = refl
of-number RequestLength = refl
of-number Version = refl
of-number NameLength = refl
of-number NoName = refl
of-number ProofLength = refl
of-number NotWaiting = refl
of-number ChallengeDiffers = refl
of-number LengthWrong = refl
of-number NotOwed = refl
of-number PayloadAbove = refl
of-number NoPlaceLeft = refl
of-number AllOnes = refl
of-number Unsound = refl
of-number Size = refl
of-number Format = refl
of-number Rows = refl
of-number KindOrId = refl
of-number StartOrLength = refl
of-number Counts = refl
of-number Permitted = refl
of-number Letter = refl
of-number NameUsed = refl

-- refusals of one number are one
pub refusal-one : (r s : Refusal) → refusal_number r ≡ refusal_number s → r ≡ s
refusal-one r s e = sym (of-number r) ∙ ap of_number e ∙ of-number s

-- two that are no refusal, or refusals of one number, are one
pub number_of-one : (x y : Result Unit Refusal) → number_of x ≡ number_of y → x ≡ y
number_of-one (Ok a) (Ok b) e = refl
number_of-one (Ok a) (Err s) e = absurd (above-zero s (sym e))
number_of-one (Err r) (Ok b) e = absurd (above-zero r e)
number_of-one (Err r) (Err s) e = ap Err (refusal-one r s e)

-- what a refused call hands back is settled by the number and the count
pub refused-one : (r s : Refused) → refusal_number r.why ≡ refusal_number s.why → r.blocks ≡ s.blocks → r ≡ s
refused-one r s e f = ap (λ (w : Refusal). record { why = w; blocks = r.blocks }) (refusal-one r.why s.why e) ∙ ap (λ n. record { why = s.why; blocks = n }) f

pub said-one : (x y : Result ℕ Refused) → said x ≡ said y → x ≡ y
said-one (Ok n) (Ok m) e = ap Ok (ap (λ (a : Answer). a.blocks) e)
said-one (Ok n) (Err s) e = absurd (above-zero s.why (sym (ap (λ (a : Answer). a.number) e)))
said-one (Err r) (Ok m) e = absurd (above-zero r.why (ap (λ (a : Answer). a.number) e))
said-one (Err r) (Err s) e = ap Err (refused-one r s (ap (λ (a : Answer). a.number) e) (ap (λ (a : Answer). a.blocks) e))
