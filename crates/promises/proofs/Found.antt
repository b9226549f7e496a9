-- "The host named (the lowest, if a lent state repeats a name)": what the search for a name finds. Then what the answer to an accepted request, and
-- to an accepted opening of a reply, carries.
use mathlib.Core.Path.{◌≡◌, refl}
use mathlib.Core.Logic.{◌≢◌, ⊎_elim}
use mathlib.Core.Bool.{Bool, true, false, not}
use mathlib.Core.List.{List}
use Prim.Native.Nat.{ℕ, zero, suc, ◌+◌, ◌-◌, ◌≤◌, ◌<◌}
use native.Mathlib.Nat.{eq-or-lt_of_le}
use native.Mathlib.Omega.{arith}
use lib.ListN.{length}
use Rattle.octets.specs.Checks.{pick}
use Rattle.octets.specs.Same.{same}
use Rattle.octets.proofs.CheckLaws.{then-passed}
use Rattle.octets.proofs.SameLaws.{same_true, same_false}
use Rattle.state.specs.declared.State.{State}
use Rattle.state.specs.declared.Rights.{Rights}
use Rattle.state.specs.Sound.{sound_rights}
use Rattle.gateway.specs.Request.{name_at, found_from, found, form_refusal, request_refusal, requesting}
use Rattle.client.specs.OpenReply.{open_refusal, opened}
use Rattle.promises.specs.Step.{request, answer}
use Rattle.promises.specs.Subject.{subject}

-- ---- the search among the k hosts from place i on

module _ (r : Rights) (names name : List ℕ) where
  -- no host from place i up to place m has the name
  abbrev Unnamed : ℕ → ℕ → Type 0
  Unnamed i m = (j : ℕ) → i ≤ j → j < m → name_at r names j ≢ name

  -- place m is the lowest of them that has it
  abbrev Lowest : ℕ → ℕ → ℕ → Type 0
  Lowest i k m = (i ≤ m) × (m < i + k) × (name_at r names m ≡ name) × Unnamed i m

  -- place i, and those after it
  unnamed-too : (i m : ℕ) → same (name_at r names i) name ≡ false → Unnamed (i + 1) m → Unnamed i m
  unnamed-too i m q f j l u =
      ⊎_elim (λ (e : i ≡ j). rw (← e) (same_false (name_at r names i) name q)) (λ (w : i < j). f j (omega arith) u) (eq-or-lt_of_le l)

  -- one place more, and then all of them: what is found, and what it says that none is
  names-step : (i k m : ℕ) (t : Bool) → same (name_at r names i) name ≡ t
      → (found_from r names name (i + 1) k ≡ suc m → Lowest (i + 1) k m)
      → pick t (i + 1) (found_from r names name (i + 1) k) ≡ suc m → Lowest i (suc k) m
  names-step i k m true q f e =
      let here : m ≡ i = omega arith in
      (omega arith, omega arith, rw here (same_true (name_at r names i) name q), λ j l u. absurd (omega arith))
  names-step i k m false q f e =
      let more = f e in
      (omega arith, omega arith, more.2, unnamed-too i m q more.3)

  names-from : (i k m : ℕ) → found_from r names name i k ≡ suc m → Lowest i k m
  unfolding found_from
  names-from i zero m e = absurd (omega arith)
  names-from i (suc k) m e = names-step i k m (same (name_at r names i) name) refl (names-from (i + 1) k m) e

  none-step : (i k : ℕ) (t : Bool) → same (name_at r names i) name ≡ t
      → (found_from r names name (i + 1) k ≡ 0 → Unnamed (i + 1) (i + 1 + k))
      → pick t (i + 1) (found_from r names name (i + 1) k) ≡ 0 → Unnamed i (i + suc k)
  none-step i k true q f e = absurd (omega arith)
  none-step i k false q f e = unnamed-too i (i + suc k) q (λ j l u. f e j l (omega arith))

  none_from : (i k : ℕ) → found_from r names name i k ≡ 0 → Unnamed i (i + k)
  unfolding found_from
  none_from i zero e j l u = absurd (omega arith)
  none_from i (suc k) e j l u = none-step i k (same (name_at r names i) name) refl (none_from (i + 1) k) e j l u

  -- ---- among all hosts

  -- the host found has the name, and no lower one has it
  pub found-names : (m : ℕ) → found r names name ≡ suc m
      → (m < r.hosts) × (name_at r names m ≡ name) × ((k : ℕ) → k < m → name_at r names k ≢ name)
  unfolding found
  found-names m e =
      let known = names-from 0 r.hosts m e in
      (omega arith, known.2, λ k l. known.3 k (omega arith) l)

  -- where none is found, no host has it
  pub found-none : found r names name ≡ 0 → (k : ℕ) → k < r.hosts → name_at r names k ≢ name
  unfolding found
  found-none e k l = none_from 0 r.hosts e k (omega arith) (omega arith)

  -- the lowest host of the name is found
  pub found-is : (m : ℕ) → m < r.hosts → name_at r names m ≡ name → ((k : ℕ) → k < m → name_at r names k ≢ name) → found r names name ≡ suc m
  unfolding found
  found-is m l e low = by_number (found r names name) refl where
    by_number : (n : ℕ) → found r names name ≡ n → n ≡ suc m
    by_number zero q = absurd (found-none q m l e)
    by_number (suc k) q =
        let known = names-from 0 r.hosts k q in
        let above : ¬ (k < m) = λ u. low k u known.2 in
        let below : ¬ (m < k) = λ u. known.3 m (omega arith) u e in
        omega arith

  -- the number found is that of a host, or 0
  pub found-low : found r names name ≤ r.hosts
  unfolding found
  found-low = by_number (found r names name) refl where
    by_number : (n : ℕ) → found r names name ≡ n → n ≤ r.hosts
    by_number zero q = omega arith
    by_number (suc k) q = let known = names-from 0 r.hosts k q in omega arith

-- ---- of an accepted request

-- 39 comes first
form-sound : (r : Rights) (p f : List ℕ) → form_refusal r p f ≡ 0 → sound_rights r ≡ true
unfolding form_refusal
form-sound r p f e = by-test (sound_rights r) _ e where
  by-test : (t : Bool) (m : ℕ) → pick (not t) 39 m ≡ 0 → t ≡ true
  by-test true m q = refl
  by-test false m q = absurd (omega arith)

module _ (s : State) (p f room : List ℕ) (e : (answer s (request p f room)).number ≡ 0) where
  -- its state is sound
  pub request-sound : sound_rights s.rights ≡ true
  unfolding answer requesting request_refusal
  request-sound = form-sound s.rights p f (then-passed (form_refusal s.rights p f) _ e).0

  -- its answer carries the number of the host named
  pub request-host : (answer s (request p f room)).host ≡ subject s (request p f room)
  unfolding answer requesting
  request-host = let z : request_refusal s.rights s.names p f (length room) ≡ 0 = e in rw z

-- ---- of an accepted opening of a reply: its answer carries the payload's length

pub open-length : (key : List ℕ) (n : ℕ) (p room : List ℕ) → (opened key n p room).number ≡ 0 → (opened key n p room).length ≡ length p - 32
unfolding opened
open-length key n p room e = let z : open_refusal key n p (length room) ≡ 0 = e in rw z
