-- A record that was stored is read back and every other one is as it was, the arrays keep their lengths, and a phase is what its
-- two numbers say.
use mathlib.Core.Path.{◌≡◌, refl, sym, ◌∙◌}
use mathlib.Core.Bool.{Bool, true, false}
use mathlib.Core.Logic.{◌≢◌}
use mathlib.Core.List.{List}
use Prim.Native.Nat.{ℕ, ◌*◌, ◌-◌, ◌<◌}
use native.Mathlib.Omega.{arith}
use borrow.Author.Tests.{lt-ltb, ltb-true, ltb-false}
use lib.Dec.{ltb}
use lib.ListN.{length, length-set, get_or-replicate}
use lib.Seq.{get_or-set_same, get_or-set_other}
use Rattle.std.proofs.lemmas.List.{take-replicate, drop-replicate}
use Rattle.octets.specs.Room.{part, over, placed}
use Rattle.octets.proofs.RoomLaws.{length_part, placed-fits, length-placed, part_placed, part-before, part-after}
use Rattle.state.specs.declared.transitions.Phase.{Phase}
use Rattle.state.specs.declared.transitions.Phase.TheVariants.{Idle, Waiting, Open}
use Rattle.state.specs.declared.transitions.Record.{Record}
use Rattle.state.specs.declared.Records.{Records}
use Rattle.state.specs.Records.{closed, phase_of, tag_of, last_of}
use Rattle.state.specs.Flat.{record_there, record_of, with_record_there, with_record, idle_records, Sized, SizedRecord}
use Rattle.octets.proofs.CheckLaws.{pick_ind}

pub phase-back : (p : Phase) → phase_of (tag_of p) (last_of p) ≡ p
phase-back Idle = refl
phase-back Waiting = refl
phase-back (Open n true) = refl
phase-back (Open n false) = refl

-- sixteen bytes over a flat array
module _ (d : List ℕ) (i : ℕ) (x : List ℕ) (low : i < 32) (long : length d ≡ 512) (size : length x ≡ 16) where
  laid : placed d (i * 16) x ≡ over d (i * 16) x
  laid = placed-fits d (i * 16) x (omega arith)

  length-laid : length (over d (i * 16) x) ≡ 512
  length-laid = rw laid at (length-placed d (i * 16) x) ∙ long

  laid_same : part (over d (i * 16) x) (i * 16) 16 ≡ x
  laid_same = rw (size, laid) at (part_placed d (i * 16) x (omega arith))

  laid-other : (j : ℕ) → i ≢ j → part (over d (i * 16) x) (j * 16) 16 ≡ part d (j * 16) 16
  laid-other j n = rw (← laid) (side (ltb j i) refl) where
    side : (t : Bool) → ltb j i ≡ t → part (placed d (i * 16) x) (j * 16) 16 ≡ part d (j * 16) 16
    side true e = let l = ltb-true j i e in part-before d (i * 16) x (j * 16) 16 (omega arith)
    side false e = let l = ltb-false j i e in part-after d (i * 16) x (j * 16) 16 (omega (arith, n))

-- what holds of the record in the arrays, where there is one, and of the idle one holds of the record of host i
module _ (s : Records) (i : ℕ) where
  record-ind : (P : Record → Type 0) → (i < 32 → P (record_there s i)) → P closed → P (record_of s i)
  unfolding record_of
  record-ind P f g = pick_ind P (ltb i 32) (λ e. f (ltb-true i 32 e)) g

  pub sized-record_of : Sized s → SizedRecord (record_of s i)
  sized-record_of z =
      record-ind SizedRecord
      (λ l. record {
        challenge = length_part s.challenges (i * 16) 16 (omega arith);
        key = length_part s.keys (i * 16) 16 (omega arith);
      })
      (record { challenge = refl; key = refl })

module _ (s : Records) (i : ℕ) (r : Record) where
  with-ind : (P : Records → Type 0) → (i < 32 → P (with_record_there s i r)) → P s → P (with_record s i r)
  unfolding with_record
  with-ind P f g = pick_ind P (ltb i 32) (λ e. f (ltb-true i 32 e)) g

  pub sized-with_record : Sized s → SizedRecord r → Sized (with_record s i r)
  sized-with_record z y =
      with-ind Sized
      (λ l. record {
        tags = simp length-set z.tags;
        lasts = simp length-set z.lasts;
        challenges = length-laid s.challenges i r.challenge l z.challenges y.challenge;
        keys = length-laid s.keys i r.key l z.keys y.key;
      })
      z

  pub stored : i < 32 → Sized s → SizedRecord r → record_of (with_record s i r) i ≡ r
  unfolding record_of with_record
  stored l z y =
      rw (
        lt-ltb i 32 l,
        get_or-set_same s.tags i (tag_of r.phase) 0 (omega arith),
        get_or-set_same s.lasts i (last_of r.phase) 0 (omega arith),
        phase-back r.phase,
        laid_same s.challenges i r.challenge l z.challenges y.challenge,
        laid_same s.keys i r.key l z.keys y.key,
      )

  pub others : (j : ℕ) → i ≢ j → Sized s → SizedRecord r → record_of (with_record s i r) j ≡ record_of s j
  unfolding record_of
  others j n z y =
      with-ind (λ t. record_of t j ≡ record_of s j)
      (λ l. rw (
        get_or-set_other s.tags i j (tag_of r.phase) 0 (λ e. n (sym e)),
        get_or-set_other s.lasts i j (last_of r.phase) 0 (λ e. n (sym e)),
        laid-other s.challenges i r.challenge l z.challenges y.challenge j n,
        laid-other s.keys i r.key l z.keys y.key j n,
      ))
      refl

pub sized-idle : Sized idle_records
unfolding idle_records
sized-idle = record { tags = refl; lasts = refl; challenges = refl; keys = refl }

pub idle-all : (i : ℕ) → record_of idle_records i ≡ closed
unfolding idle_records
idle-all i =
    record-ind idle_records i (λ r. r ≡ closed)
    (λ l. rw (get_or-replicate {A = ℕ} 32 i 0 0 l, drop-replicate {X = ℕ} (i * 16) 512 0, take-replicate {X = ℕ} 16 (512 - i * 16) 0 (omega arith)))
    refl
