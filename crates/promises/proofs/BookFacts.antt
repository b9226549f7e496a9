-- "Book, each with the offset of the fault.": which number and which place a load gives, as those of the first plain fact that fails. So a book is
-- accepted exactly when all its facts hold.
use mathlib.Core.Path.{◌≡◌, refl, sym, ap, subst, ◌∙◌}
use mathlib.Core.Logic.{◌⊎◌, inl, inr, ⊎_map, ⊎_elim}
use mathlib.Core.Bool.{Bool, true, false}
use mathlib.Core.List.{List, [], ◌∷◌, ◌++◌}
use Prim.Native.Nat.{ℕ, zero, suc, ◌+◌, ◌*◌, ◌-◌, ◌≤◌, ◌<◌}
use native.Mathlib.Nat.{eq-or-lt_of_le, le_of_suc-le-suc}
use native.Mathlib.Numerals.{add-one}
use native.Mathlib.Omega.{arith}
use borrow.Author.Tests.{ne_eqb, ltb-true, ltb-false}
use lib.Dec.{eqb, ltb}
use lib.ListN.{length, get_or, drop}
use lib.Seq.{get_or-take, get_or-drop}
use Rattle.octets.specs.Checks.{pick}
use Rattle.octets.specs.Range.{between}
use Rattle.octets.proofs.RoomLaws.{length_part}
use Rattle.layout.specs.Layout.{format, rows, total, kind, id, start, size, hosts_before, expected, commands, entries, word, lead, name_start, name}
use Rattle.grammar.specs.Faults.{Check, ◌at◌when◌, each}
use Rattle.grammar.specs.Checks.{head_checks, kind_fits, ordinal, size_fits, row_checks, count_checks, word_checks, letter_checks, used_below}
use Rattle.grammar.specs.Checks.{name_checks, interface_checks, body_checks, fault_of}
use Rattle.grammar.proofs.HostLaws.{hosts-host, hosts-other, hosts-le}
use Rattle.book.specs.States.{loaded, loaded_with}
use Rattle.promises.specs.BookFacts.{row_count, total_said, kind_said, start_said, size_said, entries_said, by_kind, before_name, name_place}
use Rattle.promises.specs.BookFacts.{name_length, name_said, head_facts, Run, InTurn, Counted, Follows, Sized, row_facts, count_facts, word_facts}
use Rattle.promises.specs.BookFacts.{letter_facts, Unused, name_facts, body_facts, book_facts}
use Rattle.promises.specs.PlacedRules.{PlacedRule, ◌at◌unless◌, AllHold, GivesAt, one_by_one}
use Rattle.promises.proofs.NameFacts.{when-fitting, unless-used, when-low}
use Rattle.promises.proofs.PlacedRuleLaws.{hold-none, hold-first, hold-second, hold-each}
use Rattle.promises.proofs.PlacedRuleLaws.{Fits, check, fits-append, fits_each, fits_gives, fits-good}
use Rattle.promises.proofs.WhenLaws.{When, Unless, when-equal, when-below, when-between, when-three, when-or, when-by}
use Rattle.promises.proofs.WhenLaws.{unless_not, unless-below, unless-zero, unless-implied, unless-by}

abbrev pub BookNumber : Type 0
BookNumber = (book : List ℕ) → GivesAt (book_facts book) (loaded book).number (loaded book).offset

abbrev pub BookExactly : Type 0
BookExactly = (book : List ℕ) → ((loaded book).number ≡ 0 → AllHold (book_facts book)) × (AllHold (book_facts book) → (loaded book).number ≡ 0)

-- ---- the head

head-fits : (b : List ℕ) → Fits (head_checks b) (head_facts b)
unfolding format rows total
head-fits b =
    check (unless-below (length b) 8) λ f.
    check (unless-below 12232 (length b)) λ f.
    check (unless_not (when-equal _ _)) λ f.
    check (unless_not (when-equal _ _)) λ f.
    check (unless-zero _) λ f.
    check (unless-below 40 _) λ f.
    check (unless-below (length b) _) λ f. tt

-- ---- the rows

-- of the rows before row i the first are hosts, as many as are counted, and the others interfaces
record Split (b : List ℕ) (i : ℕ) : Type 0 where
  hosts : (j : ℕ) → j < hosts_before b i → kind_said b j ≡ 1
  others : (j : ℕ) → hosts_before b i ≤ j → j < i → kind_said b j ≡ 2

one-two : {k : ℕ} → k ≡ 1 → k ≡ 2 → ⊥
one-two e f = omega arith

-- a run begins at one row
run-one : (b : List ℕ) (i f g : ℕ) → Run b i f → Run b i g → f ≡ g
run-one b i f g r q = either (ltb f g) refl (ltb g f) refl where
  either : (t : Bool) → ltb f g ≡ t → (u : Bool) → ltb g f ≡ u → f ≡ g
  either true e u h = let l = ltb-true f g e in absurd (q.others f l (r.alike f (omega arith) (omega (arith, q.begins))))
  either false e true h = let l = ltb-true g f h in absurd (r.others g l (q.alike g (omega arith) (omega (arith, r.begins))))
  either false e false h = omega (arith, ltb-false f g e, ltb-false g f h)

module _ (b : List ℕ) (i : ℕ) (s : Split b i) where
  abbrev h : ℕ
  h = hosts_before b i

  -- row i is a host after hosts alone, or an interface after them
  abbrev Turn : Type 0
  Turn = ((kind_said b i ≡ 1) × (h ≡ i) × (i < 32)) ⊎ ((kind_said b i ≡ 2) × (0 < h) × (i - h < 8))

  host-run : kind_said b i ≡ 1 → h ≡ i → Run b i 0
  host-run e a = record {
    begins = omega arith;
    alike = λ j l m. s.hosts j (rw a m) ∙ sym e;
    others = λ j l. absurd (omega arith);
  }

  interface-run : kind_said b i ≡ 2 → Run b i h
  interface-run e = record {
    begins = hosts-le b i;
    alike = λ j l m. s.others j l m ∙ sym e;
    others = λ j l d. one-two (s.hosts j l) (d ∙ e);
  }

  turn_in : Turn → InTurn b i
  turn_in (inl (e, a, l)) = record { from = 0; run = host-run e a; turn = inl (e, refl, l) }
  turn_in (inr (e, a, l)) = record { from = h; run = interface-run e; turn = inr (e, a, omega (arith, hosts-le b i)) }

  in-turn : InTurn b i → Turn
  in-turn t = by t.turn where
    by : ((kind_said b i ≡ 1) × (t.from ≡ 0) × (i < 32)) ⊎ ((kind_said b i ≡ 2) × (1 ≤ t.from) × (i < t.from + 8)) → Turn
    by (inl (e, a, l)) = inl (e, all (ltb h i) refl, l) where
      all : (u : Bool) → ltb h i ≡ u → h ≡ i
      all true q = let m = ltb-true h i q in absurd (one-two (t.run.alike h (omega arith) m ∙ e) (s.others h (omega arith) m))
      all false q = omega (arith, ltb-false h i q, hosts-le b i)
    by (inr (e, a, l)) = let same = run-one b i t.from h t.run (interface-run e) in inr (e, omega arith, omega arith)

  when-turn : When (kind_fits (kind b i) i h) (InTurn b i)
  unfolding kind_fits kind
  when-turn =
      when-by turn_in in-turn (when-or
      (when-three (when-equal _ 1) (when-equal h i) (when-below i 32))
      (when-three (when-equal _ 2) (when-below 0 h) (when-below (i - h) 8)))

  -- the id that is due
  host-id : kind_said b i ≡ 1 → h ≡ i → When (eqb (id b i) (ordinal (kind b i) i h)) (Counted b i)
  unfolding ordinal kind id
  host-id e a =
      rw e (when-by
      (λ q. record { from = 0; run = host-run e a; count = q ∙ omega arith })
      (λ q. q.count ∙ ap (λ (f : ℕ). i - f + 1) (run-one b i q.from 0 q.run (host-run e a)) ∙ omega arith)
      (when-equal _ (i + 1)))

  interface-id : kind_said b i ≡ 2 → When (eqb (id b i) (ordinal (kind b i) i h)) (Counted b i)
  unfolding ordinal kind id
  interface-id e =
      rw e (when-by
      (λ q. record { from = h; run = interface-run e; count = q })
      (λ q. q.count ∙ ap (λ (f : ℕ). i - f + 1) (run-one b i q.from h q.run (interface-run e)))
      (when-equal _ (i - h + 1)))

  when-counted : Turn → When (eqb (id b i) (ordinal (kind b i) i h)) (Counted b i)
  when-counted (inl (e, a, l)) = host-id e a
  when-counted (inr (e, a, l)) = interface-id e

-- where the body is to start
when-follows : (b : List ℕ) (i : ℕ) → When (eqb (start b i) (expected b i)) (Follows b i)
unfolding start size rows expected
when-follows b zero = when-equal _ _
when-follows b (suc i) = when-equal _ _

-- how long it may be
when-range : (k n : ℕ) → (k ≡ 1) ⊎ (k ≡ 2) → When (size_fits k n) (Sized k n)
unfolding size_fits
when-range k n (inl e) = subst (λ x. When (size_fits x n) (Sized x n)) (sym e)
    (when-by (λ h. inl (refl, h.0, h.1)) host (when-between 3 258 n)) where
      host : Sized 1 n → (3 ≤ n) × (n ≤ 258)
      host (inl h) = (h.1, h.2)
      host (inr h) = absurd (omega arith)
when-range k n (inr e) = subst (λ x. When (size_fits x n) (Sized x n)) (sym e)
    (when-by (λ h. inr (refl, h.0, h.1)) interface (when-between 31 436 n)) where
      interface : Sized 2 n → (31 ≤ n) × (n ≤ 436)
      interface (inl h) = absurd (omega arith)
      interface (inr h) = (h.1, h.2)

kind-is : (b : List ℕ) (i : ℕ) → InTurn b i → (kind_said b i ≡ 1) ⊎ (kind_said b i ≡ 2)
kind-is b i t = ⊎_map (λ h. h.0) (λ h. h.0) t.turn

row_fits : (b : List ℕ) (i : ℕ) → Split b i → Fits (row_checks b i) (row_facts b i)
unfolding kind start size rows total
row_fits b i s =
    check (unless_not (when-turn b i s)) λ turn.
    check (unless_not (when-counted b i s (in-turn b i s turn))) λ counted.
    check (unless_not (when-follows b i)) λ follows.
    check (unless_not (when-range _ _ (kind-is b i turn))) λ range.
    check (unless-below _ _) λ inside.
    check (unless-implied (when-equal (i + 1) _) (when-equal _ _)) λ last. tt

no_rows : (b : List ℕ) → Split b 0
no_rows b = record { hosts = λ j l. absurd (omega (arith, hosts-le b 0)); others = λ j l m. absurd (omega arith) }

module _ (b : List ℕ) (i : ℕ) (s : Split b i) where
  before-or-last : (P : ℕ → Type 0) (j : ℕ) → j < suc i → (j < i → P j) → P i → P j
  before-or-last P j l f x = ⊎_elim (λ q. subst P (sym q) x) f (eq-or-lt_of_le (le_of_suc-le-suc l))

  split-host : kind_said b i ≡ 1 → h b i s ≡ i → Split b (suc i)
  unfolding kind
  split-host e a =
      let n : hosts_before b (suc i) ≡ suc i = rw (add-one i) at (hosts-host b i e) ∙ omega arith in
      record {
        hosts = λ j l. before-or-last (λ k. kind_said b k ≡ 1) j (rw n at l) (λ m. s.hosts j (rw a m)) e;
        others = λ j l m. absurd (omega arith);
      }

  split-interface : kind_said b i ≡ 2 → Split b (suc i)
  unfolding kind
  split-interface e =
      let n : hosts_before b (suc i) ≡ h b i s = rw (add-one i) at (hosts-other b i (λ q. one-two q e)) in
      record {
        hosts = λ j l. s.hosts j (rw n at l);
        others = λ j l m. before-or-last (λ k. kind_said b k ≡ 2) j m (λ q. s.others j (rw n at l) q) e;
      }

  split-next : Turn b i s → Split b (suc i)
  split-next (inl (e, a, l)) = split-host e a
  split-next (inr (e, a, l)) = split-interface e

-- ---- the bodies

of-kind : {A : Type 0} (k : ℕ) (x y : A) → pick (eqb k 1) x y ≡ by_kind k x y
of-kind zero x y = refl
of-kind (suc zero) x y = refl
of-kind (suc (suc k)) x y = rw (ne_eqb (suc (suc k)) 1 (λ e. omega arith))

module _ (b : List ℕ) where
  lead_is : (i : ℕ) → lead b i ≡ before_name b i
  unfolding lead kind entries start
  lead_is i = of-kind (kind_said b i) 2 (20 + 10 * entries_said b i)

  place_is : (i : ℕ) → name_start b i ≡ name_place b i
  unfolding name_start start
  place_is i = ap (λ (k : ℕ). start_said b i + k) (lead_is i)

  name-is : (i : ℕ) → name b i ≡ name_said b i
  unfolding name size
  name-is i = rw (place_is i, lead_is i)

  module _ (i : ℕ) (inside : name_place b i + name_length b i ≤ length b) where
    long : length (name b i) ≡ name_length b i
    long = rw (name-is i) (length_part b (name_place b i) (name_length b i) inside)

    byte-is : (k : ℕ) → k < name_length b i → get_or (name b i) k 0 ≡ get_or b (name_place b i + k) 0
    byte-is k l = rw (name-is i) (get_or-take (name_length b i) (drop (name_place b i) b) k 0 l ∙ get_or-drop (name_place b i) b k 0)

    -- the checks of its letters, and their facts
    abbrev letters : ℕ → List Check
    letters k = letter_checks (name_place b i) (name b i) k

    abbrev rules : ℕ → List PlacedRule
    rules k = letter_facts b (name_place b i) (name_length b i) k

    letter-fits : (k : ℕ) → k < name_length b i → Fits (letters k) (rules k)
    letter-fits k l = check (unless_not (when-fitting (name b i) k _ (name_length b i) (byte-is k l) long)) λ f. tt

    letters-fit : Fits (each letters 0 (name_length b i)) (one_by_one rules 0 (name_length b i))
    letters-fit =
        fits_each letters rules (name_length b i) (λ k. Unit) (λ k l x. letter-fits k l) (λ k l x y. tt) 0 (name_length b i) (omega arith) tt

    -- names of rows, read by their kinds
    unless-twin : Unless (used_below b i i) (Unused b i)
    unfolding kind
    unless-twin =
        unless-by
        (λ h j l k e. h j l k (name-is j ∙ e ∙ sym (name-is i)))
        (λ h j l k e. h j l k (sym (name-is j) ∙ e ∙ name-is i))
        (unless-used b i i)

    name-fits : Fits (name_checks b i) (name_facts b i)
    unfolding name_checks
    name-fits =
        rw (place_is i, long)
        (fits-append (each letters 0 (name_length b i)) (one_by_one rules 0 (name_length b i))
        (48 at name_place b i when used_below b i i ∷ []) (48 at name_place b i unless Unused b i ∷ []) letters-fit (λ f. check unless-twin λ g. tt))

-- ---- an interface's counts and words

when-span : (e n : ℕ) → When (between (21 + 10 * e) (276 + 10 * e) n) ((20 + 10 * e + 1 ≤ n) × (n ≤ 20 + 10 * e + 256))
when-span e n = when-by (λ h. (omega arith, omega arith)) (λ h. (omega arith, omega arith)) (when-between (21 + 10 * e) (276 + 10 * e) n)

counts-fit : (b : List ℕ) (i : ℕ) → Fits (count_checks b i) (count_facts b i)
unfolding start size commands entries
counts-fit b i =
    check (unless_not (when-between 1 64 _)) λ f.
    check (unless_not (when-between 1 16 _)) λ f.
    check (unless_not (when-span _ _)) λ f. tt

-- what is judged before the name, of an interface and by kind
abbrev lead_facts : List ℕ → ℕ → List PlacedRule
lead_facts b i = count_facts b i ++ one_by_one (word_facts b i) 0 (entries_said b i)

interface-fits : (b : List ℕ) (i : ℕ) → Fits (interface_checks b i) (lead_facts b i)
unfolding interface_checks start commands entries word
interface-fits b i =
    fits-append (count_checks b i) (count_facts b i) (each (word_checks b i) 0 (entries b i)) (one_by_one (word_facts b i) 0 (entries_said b i))
    (counts-fit b i)
    (λ h. fits_each (word_checks b i) (word_facts b i) (entries_said b i) (λ j. Unit)
    (λ j l x. check (unless_not (when-low _ _)) λ f. tt) (λ j l x y. tt) 0 (entries_said b i) (omega arith) tt)

lead-fits : (b : List ℕ) (i k : ℕ) → Fits (by_kind k [] (interface_checks b i)) (by_kind k [] (lead_facts b i))
lead-fits b i zero = interface-fits b i
lead-fits b i (suc zero) = tt
lead-fits b i (suc (suc k)) = interface-fits b i

-- the name ends where the body does
name-inside : (b : List ℕ) (i k : ℕ) → AllHold (by_kind k [] (lead_facts b i)) → Sized k (size_said b i)
    → by_kind k 2 (20 + 10 * entries_said b i) ≤ size_said b i
name-inside b i zero h r = omega (arith, (hold-first (count_facts b i) (one_by_one (word_facts b i) 0 (entries_said b i)) h).1.1.0)
name-inside b i (suc zero) h (inl r) = omega (arith, r.1)
name-inside b i (suc zero) h (inr r) = absurd (omega (arith, r.0))
name-inside b i (suc (suc k)) h r = omega (arith, (hold-first (count_facts b i) (one_by_one (word_facts b i) 0 (entries_said b i)) h).1.1.0)

body-fits : (b : List ℕ) (i : ℕ) → total_said b ≡ length b → AllHold (row_facts b i) → Fits (body_checks b i) (body_facts b i)
unfolding body_checks kind
body-fits b i e r =
    let k : ℕ = kind_said b i in
    rw (of-kind k [] (interface_checks b i))
    (fits-append (by_kind k [] (interface_checks b i)) (by_kind k [] (lead_facts b i)) (name_checks b i) (name_facts b i) (lead-fits b i k)
    λ h. name-fits b i (omega (arith, name-inside b i k h r.1.1.1.0, r.1.1.1.1.0)))

-- ---- the whole

module _ (b : List ℕ) where
  abbrev rows_checked : List Check
  rows_checked = each (row_checks b) 0 (rows b)

  abbrev bodies_checked : List Check
  bodies_checked = each (body_checks b) 0 (rows b)

  abbrev rows_ruled : List PlacedRule
  rows_ruled = one_by_one (row_facts b) 0 (row_count b)

  abbrev bodies_ruled : List PlacedRule
  bodies_ruled = one_by_one (body_facts b) 0 (row_count b)

  rows_fit : Fits rows_checked rows_ruled
  unfolding rows
  rows_fit =
      fits_each (row_checks b) (row_facts b) (row_count b) (Split b) (λ i l s. row_fits b i s)
      (λ i l s h. split-next b i s (in-turn b i s h.0)) 0 (row_count b) (omega arith) (no_rows b)

  row-holds : AllHold (head_facts b ++ rows_ruled) → (i : ℕ) → i < row_count b → AllHold (row_facts b i)
  row-holds h i l =
      let z : 0 + i ≡ i = omega arith in
      rw z at (hold-each (row_facts b) 0 (row_count b) i (hold-second (head_facts b) rows_ruled h) l)

  bodies-fit : AllHold (head_facts b ++ rows_ruled) → Fits bodies_checked bodies_ruled
  unfolding rows
  bodies-fit h =
      let whole : total_said b ≡ length b = (hold-first (head_facts b) rows_ruled h).1.1.0 in
      fits_each (body_checks b) (body_facts b) (row_count b) (λ i. Unit) (λ i l x. body-fits b i whole (row-holds h i l)) (λ i l x y. tt)
      0 (row_count b) (omega arith) tt

  abbrev checks : List Check
  checks = head_checks b ++ rows_checked ++ bodies_checked

  book-fits : Fits checks (book_facts b)
  unfolding book_facts
  book-fits =
      fits-append (head_checks b ++ rows_checked) (head_facts b ++ rows_ruled) bodies_checked bodies_ruled
      (fits-append (head_checks b) (head_facts b) rows_checked rows_ruled (head-fits b) (λ h. rows_fit))
      bodies-fit

pub book-number : BookNumber
unfolding loaded loaded_with fault_of
book-number b = fits_gives (checks b) (book_facts b) (book-fits b)

pub book-exactly : BookExactly
unfolding loaded loaded_with fault_of
book-exactly b = (fits-good (checks b) (book_facts b) (book-fits b), λ h. (hold-none (book_facts b) _ _ h (book-number b)).0)
