-- "A genuine capability (reached from the issued one by narrowings)": the issuing and the narrowings are the client's calls. What an accepted issue
-- writes is reached (`reached-issue`), and so is what an accepted narrowing of a reached capability writes (`reached-narrow`).
use mathlib.Core.Path.{◌≡◌, refl, sym, ap, subst, ◌∙◌}
use mathlib.Core.Bool.{not}
use mathlib.Core.List.{List, [], ◌∷◌}
use Prim.Native.Nat.{ℕ, ◌<◌, ◌^◌}
use borrow.Author.Tests.{not-false, eqb-false}
use lib.Dec.{eqb, ltb}
use lib.ListN.{length, take}
use lib.Seq.{take_at}
use Rattle.octets.specs.Checks.{◌when◌}
use Rattle.octets.specs.Room.{at_start}
use Rattle.octets.proofs.CheckLaws.{passed-of}
use Rattle.capability.specs.Bytes.{four_at, open?}
use Rattle.capability.specs.Calls.{issue_refusal, issued, narrow_refusal, narrowing, written}
use Rattle.capability.specs.Chain.{all_ones}
use Rattle.promises.specs.Reached.{Reached, by-issue, by-narrowing}
use Rattle.promises.proofs.Written.{issue-writes, narrow-writes}

-- "Issuing gives four all-ones words and the first secret.": the 50 bytes at the start of the room after an accepted issue
abbrev pub ReachedIssue : Type 0
ReachedIssue =
    (master : List ℕ) (id : ℕ) (room : List ℕ) → issue_refusal master id room ≡ 0
    → Reached master id (take 50 (written (issue_refusal master id room) (issued master id) room))

-- "Narrowing puts a word in the first all-ones place and moves the secret one step, without the master secret.": and after an accepted narrowing
abbrev pub ReachedNarrow : Type 0
ReachedNarrow =
    (master : List ℕ) (id : ℕ) (c : List ℕ) (w : ℕ) (room : List ℕ) → Reached master id c → w < 2 ^ 64 → narrow_refusal c w room ≡ 0
    → Reached master id (take 50 (written (narrow_refusal c w room) (narrowing c w) room))

-- fifty bytes at the start of a room, read there
fifty : (x room after : List ℕ) → (after ≡ at_start x room) × (length x ≡ 50) → x ≡ take 50 after
fifty x room after h = sym (ap (take 50) h.0 ∙ take_at x _ 50 h.1)

pub reached-issue : ReachedIssue
reached-issue master id room accepted = subst (Reached master id) (fifty _ room _ (issue-writes master id room accepted)) by-issue

pub reached-narrow : ReachedNarrow
unfolding narrow_refusal
reached-narrow master id c w room r low accepted =
    let rows = passed-of
    (28 when not (eqb (length c) 50) ∷ 32 when eqb w all_ones ∷ 31 when not (open? (four_at c 2)) ∷ 7 when ltb (length room) 50 ∷ []) refl accepted in
    subst (Reached master id) (fifty _ room _ (narrow-writes c w room accepted))
    (by-narrowing c w r low (eqb-false w all_ones rows.1.0) (not-false _ rows.1.1.0))
