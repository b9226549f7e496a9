-- What the loader takes from the checks of a good book: its numbers and lengths are in range (document 01, "The book").
use mathlib.Core.Path.{◌≡◌, refl, sym, ap, ◌∙◌}
use mathlib.Core.Bool.{Bool, true, false}
use mathlib.Core.Logic.{◌≢◌}
use mathlib.Core.List.{List}
use Prim.Native.Nat.{ℕ, zero, suc, ◌+◌, ◌*◌, ◌-◌, ◌^◌, ◌≤◌, ◌<◌}
use native.Mathlib.Nat.{le_refl, zero-add, suc-add}
use native.Mathlib.Omega.{arith}
use borrow.Author.Tests.{eqb-false}
use lib.Dec.{eqb}
use lib.ListN.{length}
use Rattle.octets.specs.Checks.{pick}
use Rattle.octets.specs.Range.{between}
use Rattle.octets.proofs.RoomLaws.{length_part}
use Rattle.octets.proofs.RangeLaws.{between-both}
use Rattle.layout.specs.Layout.{rows, kind, start, size, lead, name_start, name, secret, commands, entries, word, hosts_before}
use Rattle.grammar.specs.Checks.{fault_of, size_fits}
use Rattle.grammar.proofs.HostLaws.{hosts-host}
use Rattle.grammar.proofs.GoodLaws.{good-host, good_length, good-end, good-commands, good-entries, good-room, good-word, good-counts}
use Rattle.state.specs.Sound.{Within}
use Rattle.book.specs.Contents.{host_count}

-- one row more has as many hosts or one more
hosts-more : (b : List ℕ) (k i : ℕ) → hosts_before b i ≤ hosts_before b (k + i)
unfolding hosts_before
hosts-more b zero i = rw zero-add (le_refl (hosts_before b i))
hosts-more b (suc k) i = rw suc-add (omega (arith, hosts-more b k i))

module _ (b : List ℕ) (e : (fault_of b).number ≡ 0) where
  pub hosts-within : host_count b ≤ 32
  unfolding host_count
  hosts-within = (good-counts b e (rows b) (le_refl (rows b))).0

  pub interfaces-within : rows b - host_count b ≤ 8
  unfolding host_count
  interfaces-within = omega (arith, (good-counts b e (rows b) (le_refl (rows b))).1)

  -- a name is as long as its body says, by the kind
  named : (i : ℕ) → lead b i ≤ size b i → start b i + size b i ≤ length b → length (name b i) ≡ size b i - lead b i
  unfolding name name_start
  named i l h = length_part b (start b i + lead b i) (size b i - lead b i) (omega arith)

  name_by : (i : ℕ) → i < rows b → (t : Bool) → eqb (kind b i) 1 ≡ t → Within 256 (length (name b i))
  unfolding lead size_fits
  name_by i h true q =
      let n : ℕ = size b i in
      let k : lead b i ≡ 2 = ap (λ (t : Bool). pick t 2 (20 + 10 * entries b i)) q in
      let f : (3 ≤ n) × (n ≤ 258) =
      between-both 3 258 n (sym (ap (λ (t : Bool). pick t (between 3 258 n) (between 31 436 n)) q) ∙ good_length b e i h) in
      let m : length (name b i) ≡ n - lead b i = named i (omega arith) (good-end b e i h) in
      (omega arith, omega arith)
  name_by i h false q =
      let k : lead b i ≡ 20 + 10 * entries b i = ap (λ (t : Bool). pick t 2 (20 + 10 * entries b i)) q in
      let r = good-room b e i h (eqb-false (kind b i) 1 q) in
      let m : length (name b i) ≡ size b i - lead b i = named i (omega arith) (good-end b e i h) in
      (omega arith, omega arith)

  pub name-within : (i : ℕ) → i < rows b → Within 256 (length (name b i))
  name-within i h = name_by i h (eqb (kind b i) 1) refl

  -- an interface
  module _ (i : ℕ) (l : host_count b ≤ i) (h : i < rows b) where
    no-host : kind b i ≢ 1
    unfolding host_count
    no-host q =
        let m : rows b - (i + 1) + (i + 1) ≡ rows b = omega arith in
        omega (arith, hosts-host b i q, (good-host b e i h q).0, ap (hosts_before b) m, hosts-more b (rows b - (i + 1)) (i + 1))

    pub commands-within : Within 64 (commands b i)
    commands-within = good-commands b e i h no-host

    pub entries-within : Within 16 (entries b i)
    entries-within = good-entries b e i h no-host

    pub word_below : (j : ℕ) → j < entries b i → word b i j < 2 ^ commands b i
    word_below = good-word b e i h no-host

    pub secret-whole : length (secret b i) ≡ 16
    unfolding secret
    secret-whole = length_part b (start b i) 16 (omega (arith, good-end b e i h, (good-room b e i h no-host).0))
