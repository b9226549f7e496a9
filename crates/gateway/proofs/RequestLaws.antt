-- Request: the search for a name, place by place, what the form's checks tell once they have passed, and the call's end in each case.
use Rattle.std.specs.Prelude.{Some, None}
use mathlib.Core.Path.{◌≡◌, refl, sym, ◌∙◌}
use mathlib.Core.Logic.{◌≢◌}
use mathlib.Core.Bool.{Bool, true, false, not, true≢false}
use mathlib.Core.List.{List, ◌++◌}
use Prim.Native.Nat.{ℕ, zero, suc, ◌+◌, ◌-◌, ◌<◌, ◌≤◌}
use native.Mathlib.Omega.{arith}
use lib.Dec.{eqb}
use lib.ListN.{length}
use borrow.Author.Tests.{eqb-true, leb-true, not-false, lt-ltb, le-ltb}
use Rattle.octets.specs.Checks.{pick, is_zero}
use Rattle.octets.specs.Range.{between}
use Rattle.octets.specs.Room.{part, placed}
use Rattle.octets.specs.Same.{same}
use Rattle.octets.proofs.CheckLaws.{and_left, then_some}
use Rattle.state.specs.declared.Rights.{Rights}
use Rattle.state.specs.declared.Records.{Records}
use Rattle.state.specs.Flat.{with_record}
use Rattle.state.specs.Records.{requested}
use Rattle.state.specs.Sound.{sound_rights}
use Rattle.gateway.specs.Common.{plain}
use Rattle.gateway.specs.Request.{name_at, found_from, found, host_of, asked, form_refusal, request_refusal, Requested, requesting, request_room}

-- the search among n hosts has come to place i
module _ (r : Rights) (names name : List ℕ) (n i : ℕ) (l : i < n) where
  one_more : n - i ≡ suc (n - (i + 1))
  one_more = omega arith

  pub found_here : same (name_at r names i) name ≡ true → found_from r names name i (n - i) ≡ i + 1
  unfolding found_from
  found_here e = rw (one_more, e)

  pub found-next : same (name_at r names i) name ≡ false → found_from r names name (i + 1) (n - (i + 1)) ≡ found_from r names name i (n - i)
  unfolding found_from
  found-next e = sym (rw (one_more, e))

-- a table accepts where its first row's test doesn't hold and the rows after it accept
row-passed : (n : ℕ) (t : Bool) (m : ℕ) → is_zero n ≡ false → pick t n m ≡ 0 → (t ≡ false) × (m ≡ 0)
row-passed zero t m h e = absurd (true≢false h)
row-passed (suc n) true m h e = absurd (omega arith)
row-passed (suc n) false m h e = (refl, e)

pub formed : (r : Rights) (p fresh : List ℕ) → form_refusal r p fresh ≡ 0 → (length fresh ≡ 16) × (20 ≤ length p)
unfolding form_refusal
formed r p fresh e =
    let a = row-passed 39 (not (sound_rights r)) _ refl e in
    let b = row-passed 28 (not (eqb (length fresh) 16)) _ refl a.1 in
    let d = row-passed 20 (not (between 21 276 (length p))) _ refl b.1 in
    let l : 21 ≤ length p = leb-true 21 (length p) (and_left _ _ (not-false _ d.0)) in
    (eqb-true (length fresh) 16 (not-false _ b.0), omega arith)

-- where there is no host the number is 0, and above it where there is one
pub no-host : (n : ℕ) → host_of n ≡ None → n ≡ 0
no-host zero e = refl
no-host (suc n) e = cc

pub some-host : (n h : ℕ) → host_of n ≡ Some h → (h ≡ n) × (h ≢ 0)
some-host zero h e = cc
some-host (suc n) h e = let q : h ≡ suc n = cc in (q, λ z. omega arith)

-- the ends of a request; h is the number of the host that is asked for
module _ (r : Rights) (s : Records) (names p fresh room : List ℕ) where
  abbrev said : ℕ → ℕ → Records → Requested
  said n h t = record { answer = plain n; host = h; records = t }

  -- with that answer, and that room
  abbrev Ends : Requested → List ℕ → Type 0
  Ends x d = (x ≡ requesting r s names p fresh (length room)) × (d ≡ request_room r names p fresh room)

  refused : (n : ℕ) → n ≢ 0 → request_refusal r names p fresh (length room) ≡ n → Ends (said n 0 s) room
  unfolding requesting request_room
  refused zero d e = absurd (d refl)
  refused (suc n) d e = rw e (refl, refl)

  pub ill-formed : (n : ℕ) → n ≡ form_refusal r p fresh → n ≢ 0 → Ends (said n 0 s) room
  unfolding request_refusal
  ill-formed n e d = refused n d (rw (← e) (then_some n _ d))

  module _ (e : form_refusal r p fresh ≡ 0) where
    pub nameless : (h : ℕ) → h ≡ found r names (asked p) → h ≡ 0 → Ends (said 23 0 s) room
    unfolding request_refusal
    nameless h q z = refused 23 (λ x. omega arith) (rw (e, sym q ∙ z))

    pub roomless : (h : ℕ) → h ≡ found r names (asked p) → h ≢ 0 → length room < 32 → Ends (said 7 0 s) room
    unfolding request_refusal
    roomless zero q d l = absurd (d refl)
    roomless (suc h) q d l = refused 7 (λ x. omega arith) (rw (e, ← q, lt-ltb (length room) 32 l))

    pub granted : (h : ℕ) → h ≡ found r names (asked p) → h ≢ 0 → 32 ≤ length room
        → Ends (said 0 h (with_record s (h - 1) (requested fresh))) (placed room 0 (part p 4 16 ++ fresh))
    unfolding requesting request_room request_refusal
    granted zero q d l = absurd (d refl)
    granted (suc h) q d l = rw (e, ← q, le-ltb (length room) 32 l) (refl, refl)
