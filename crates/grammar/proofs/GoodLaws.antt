-- What a good book is: a list of checks without a fault has passed each of them, so that the book is as the document says.
use mathlib.Core.Path.{◌≡◌, refl, sym, ap, ◌∙◌}
use mathlib.Core.Bool.{Bool, true, false, not, ◌&&◌, true≢false, false≢true}
use mathlib.Core.List.{List, [], ◌∷◌, ◌++◌}
use mathlib.Core.Logic.{◌≢◌}
use Prim.Native.Nat.{ℕ, zero, suc, ◌+◌, ◌-◌, ◌*◌, ◌^◌, ◌<◌, ◌≤◌}
use native.Mathlib.Nat.{not-suc-le-zero}
use native.Mathlib.Numerals.{add-one}
use native.Mathlib.Omega.{arith}
use lib.Dec.{ltb, eqb}
use lib.ListN.{length}
use borrow.Author.Tests.{ltb-true, ltb-false, eqb-true, eqb-false, eq-eqb, ne_eqb, not-false}
use Rattle.octets.specs.Checks.{pick, is_zero}
use Rattle.octets.proofs.CheckLaws.{and_left, and_right}
use Rattle.octets.proofs.SameLaws.{same_refl}
use Rattle.octets.proofs.RangeLaws.{between-both}
use Rattle.layout.specs.Layout.{format, rows, total, row, kind, id, start, size, hosts_before, expected, commands, entries, word, name_start, name}
use Rattle.grammar.specs.Names.{fitting}
use Rattle.grammar.specs.Faults.{Fault, Check, ◌at◌when◌, first, each, ◌else◌, none}
use Rattle.grammar.specs.Checks.{head_checks, kind_fits, ordinal, size_fits, row_checks, count_checks, word_checks, letter_checks, used_below, name_checks, interface_checks, body_checks, fault_of}
use Rattle.grammar.proofs.TestLaws.{or-none}
use Rattle.grammar.proofs.TwinLaws.{found}
use Rattle.grammar.proofs.HostLaws.{hosts-host, hosts-other}
use Rattle.grammar.proofs.FaultLaws.{else-stop, else-go, first-append}

-- every number is above 0, and no test holds
abbrev pub numbered : List Check → Bool
numbered [] = true
numbered ((n at p when t) ∷ cs) = not (is_zero n) && numbered cs

abbrev pub Passed : List Check → Type 0
Passed [] = Unit
Passed ((n at p when t) ∷ cs) = (t ≡ false) × Passed cs

pub passed-of : (cs : List Check) → numbered cs ≡ true → (first cs).number ≡ 0 → Passed cs
unfolding first
passed-of [] h e = tt
passed-of ((zero at p when t) ∷ cs) h e = absurd (false≢true h)
passed-of ((suc n at p when true) ∷ cs) h e = absurd (omega arith)
passed-of ((suc n at p when false) ∷ cs) h e = (refl, passed-of cs h e)

pub of-passed : (cs : List Check) → Passed cs → first cs ≡ none
unfolding first
of-passed [] h = refl
of-passed ((n at p when t) ∷ cs) h = rw h.0 (of-passed cs h.1)

numbered-append : (xs ys : List Check) → numbered xs ≡ true → numbered ys ≡ true → numbered (xs ++ ys) ≡ true
numbered-append [] ys h k = k
numbered-append ((zero at p when t) ∷ cs) ys h k = absurd (false≢true h)
numbered-append ((suc n at p when t) ∷ cs) ys h k = numbered-append cs ys h k

numbered-each : (F : ℕ → List Check) → ((i : ℕ) → numbered (F i) ≡ true) → (i n : ℕ) → numbered (each F i n) ≡ true
unfolding each
numbered-each F h i zero = refl
numbered-each F h i (suc n) = numbered-append (F i) (each F (suc i) n) (h i) (numbered-each F h (suc i) n)

numbered-body : (b : List ℕ) (i : ℕ) → numbered (body_checks b i) ≡ true
unfolding body_checks interface_checks name_checks
numbered-body b i =
    numbered-append (pick (eqb (kind b i) 1) [] (interface_checks b i)) (name_checks b i) (either (eqb (kind b i) 1))
    (numbered-append (each (letter_checks (name_start b i) (name b i)) 0 (length (name b i))) _
    (numbered-each (letter_checks (name_start b i) (name b i)) (λ k. refl) 0 (length (name b i))) refl) where
      either : (t : Bool) → numbered (pick t [] (interface_checks b i)) ≡ true
      either true = refl
      either false = numbered-each (word_checks b i) (λ k. refl) 0 (entries b i)

-- an accepted book's fault has the place 0 too
pub good_none : (b : List ℕ) → (fault_of b).number ≡ 0 → fault_of b ≡ none
unfolding fault_of
good_none b e =
    let cs = head_checks b ++ each (row_checks b) 0 (rows b) ++ each (body_checks b) 0 (rows b) in
    of-passed cs (passed-of cs
    (numbered-append (head_checks b ++ each (row_checks b) 0 (rows b)) (each (body_checks b) 0 (rows b))
    (numbered-each (row_checks b) (λ i. refl) 0 (rows b)) (numbered-each (body_checks b) (numbered-body b) 0 (rows b))) e)

else-good : (f g : Fault) → (f else g).number ≡ 0 → (f.number ≡ 0) × (g.number ≡ 0)
else-good f g e = either f.number refl where
  either : (n : ℕ) → f.number ≡ n → (f.number ≡ 0) × (g.number ≡ 0)
  either zero z = (z, ap (λ (h : Fault). h.number) (sym (else-go f g z)) ∙ e)
  either (suc n) z = absurd (omega (arith, z, ap (λ (h : Fault). h.number) (else-stop f g (λ y. omega arith)), e))

pub append-good : (xs ys : List Check) → (first (xs ++ ys)).number ≡ 0 → ((first xs).number ≡ 0) × ((first ys).number ≡ 0)
append-good xs ys e = else-good (first xs) (first ys) (rw first-append at e)

-- each of n things has passed
pub each-good : (F : ℕ → List Check) (i n k : ℕ) → (first (each F i n)).number ≡ 0 → k < n → (first (F (i + k))).number ≡ 0
unfolding each
each-good F i zero k e l = absurd (not-suc-le-zero l)
each-good F i (suc n) zero e l = let z : i + 0 ≡ i = omega arith in rw z (append-good (F i) (each F (suc i) n) e).0
each-good F i (suc n) (suc k) e l =
    let z : i + suc k ≡ suc i + k = omega arith in
    rw z (each-good F (suc i) n k (append-good (F i) (each F (suc i) n) e).1 (omega arith))

module _ (b : List ℕ) (good : (fault_of b).number ≡ 0) where
  parts : ((first (head_checks b ++ each (row_checks b) 0 (rows b))).number ≡ 0) × ((first (each (body_checks b) 0 (rows b))).number ≡ 0)
  unfolding fault_of
  parts = append-good (head_checks b ++ each (row_checks b) 0 (rows b)) (each (body_checks b) 0 (rows b)) good

  head-good : Passed (head_checks b)
  head-good = passed-of (head_checks b) refl (append-good (head_checks b) (each (row_checks b) 0 (rows b)) parts.0).0

  pub good-size : (8 ≤ length b) × (length b ≤ 12232) × (total b ≡ length b)
  good-size =
      (ltb-false _ _ head-good.0, ltb-false _ _ head-good.1.0, eqb-true _ _ (not-false _ head-good.1.1.0))

  pub good-format : format b ≡ 1
  good-format = eqb-true _ _ (not-false _ head-good.1.1.1.0)

  pub good-rows : (1 ≤ rows b) × (rows b ≤ 40) × (row (rows b) ≤ length b)
  good-rows =
      let h = head-good.1.1.1.1 in
      let n : rows b ≢ 0 = eqb-false (rows b) 0 h.0 in
      (omega arith, ltb-false _ _ h.1.0, ltb-false _ _ h.1.1.0)

  module _ (i : ℕ) (l : i < rows b) where
    row-good : Passed (row_checks b i)
    row-good =
        let z : 0 + i ≡ i = omega arith in
        passed-of (row_checks b i) refl
        (rw z at (each-good (row_checks b) 0 (rows b) i (append-good (head_checks b) (each (row_checks b) 0 (rows b)) parts.0).1 l))

    pub good-kind : kind_fits (kind b i) i (hosts_before b i) ≡ true
    good-kind = not-false _ row-good.0

    pub good-host : kind b i ≡ 1 → (hosts_before b i ≡ i) × (i < 32)
    unfolding kind_fits
    good-host e =
        let g : eqb (hosts_before b i) i && ltb i 32 ≡ true = sym (or-none _) ∙ rw e at good-kind in
        (eqb-true _ _ (and_left _ _ g), ltb-true _ _ (and_right (eqb (hosts_before b i) i) _ g))

    pub good-interface : kind b i ≢ 1 → (kind b i ≡ 2) × (1 ≤ hosts_before b i) × (i - hosts_before b i < 8)
    unfolding kind_fits
    good-interface k =
        let g : eqb (kind b i) 2 && (ltb 0 (hosts_before b i) && ltb (i - hosts_before b i) 8) ≡ true = rw (ne_eqb _ _ k) at good-kind in
        let h = and_right (eqb (kind b i) 2) _ g in
        (eqb-true _ _ (and_left _ _ g), ltb-true _ _ (and_left _ _ h), ltb-true _ _ (and_right (ltb 0 (hosts_before b i)) _ h))

    pub good-id : id b i ≡ ordinal (kind b i) i (hosts_before b i)
    good-id = eqb-true _ _ (not-false _ row-good.1.0)

    pub good_start : start b i ≡ expected b i
    good_start = eqb-true _ _ (not-false _ row-good.1.1.0)

    pub good_length : size_fits (kind b i) (size b i) ≡ true
    good_length = not-false _ row-good.1.1.1.0

    pub good-end : start b i + size b i ≤ length b
    good-end = omega (arith, ltb-false (total b) (start b i + size b i) row-good.1.1.1.1.0, good-size.2)

    pub good-last : i + 1 ≡ rows b → start b i + size b i ≡ length b
    good-last e =
        eqb-true _ _ (not-false _ (rw (eq-eqb _ _ e) at row-good.1.1.1.1.1.0)) ∙ good-size.2

    body-good : (first (pick (eqb (kind b i) 1) [] (interface_checks b i) ++ name_checks b i)).number ≡ 0
    unfolding body_checks
    body-good = let z : 0 + i ≡ i = omega arith in rw z at (each-good (body_checks b) 0 (rows b) i parts.1 l)

    name-good : (first (each (letter_checks (name_start b i) (name b i)) 0 (length (name b i)) ++ 48 at name_start b i when used_below b i i ∷ [])).number ≡ 0
    unfolding name_checks
    name-good = (append-good (pick (eqb (kind b i) 1) [] (interface_checks b i)) (name_checks b i) body-good).1

    pub good-letters : (k : ℕ) → k < length (name b i) → fitting (name b i) k ≡ true
    good-letters k m =
        let z : 0 + k ≡ k = omega arith in
        let s = each (letter_checks (name_start b i) (name b i)) 0 (length (name b i)) in
        not-false _ (passed-of (letter_checks (name_start b i) (name b i) k) refl
        (rw z at (each-good (letter_checks (name_start b i) (name b i)) 0 (length (name b i)) k (append-good s _ name-good).0 m))).0

    unused : used_below b i i ≡ false
    unused =
        let s = each (letter_checks (name_start b i) (name b i)) 0 (length (name b i)) in
        (passed-of (48 at name_start b i when used_below b i i ∷ []) refl (append-good s _ name-good).1).0

    module _ (k : kind b i ≢ 1) where
      interface-good : (first (count_checks b i ++ each (word_checks b i) 0 (entries b i))).number ≡ 0
      unfolding interface_checks
      interface-good =
          (append-good (interface_checks b i) (name_checks b i) (rw (ne_eqb _ _ k) at body-good)).0

      counts-good : Passed (count_checks b i)
      counts-good = passed-of (count_checks b i) refl (append-good (count_checks b i) (each (word_checks b i) 0 (entries b i)) interface-good).0

      pub good-commands : (1 ≤ commands b i) × (commands b i ≤ 64)
      good-commands = between-both _ _ _ (not-false _ counts-good.0)

      pub good-entries : (1 ≤ entries b i) × (entries b i ≤ 16)
      good-entries = between-both _ _ _ (not-false _ counts-good.1.0)

      pub good-room : (21 + 10 * entries b i ≤ size b i) × (size b i ≤ 276 + 10 * entries b i)
      good-room = between-both _ _ _ (not-false _ counts-good.1.1.0)

      pub good-word : (j : ℕ) → j < entries b i → word b i j < 2 ^ commands b i
      good-word j m =
          let z : 0 + j ≡ j = omega arith in
          ltb-true _ _ (not-false _ (passed-of (word_checks b i j) refl
          (rw z at (each-good (word_checks b i) 0 (entries b i) j (append-good (count_checks b i) (each (word_checks b i) 0 (entries b i)) interface-good).1 m))).0)

  -- "unique within a kind": no two rows have the same kind and the same name
  pub good-unique : (i j : ℕ) → i < j → j < rows b → kind b i ≡ kind b j → name b i ≡ name b j → ⊥
  good-unique i j l h k s =
      true≢false (sym (found b j j i l (rw (k, s, eq-eqb (kind b j) (kind b j) refl) (same_refl (name b j)))) ∙ unused j h)

  -- "Hosts first, 1 to 32; then interfaces, 0 to 8", of the first i rows and of all
  pub good-counts : (i : ℕ) → i ≤ rows b → (hosts_before b i ≤ 32) × (i ≤ hosts_before b i + 8)
  unfolding hosts_before
  good-counts zero l = (omega arith, omega arith)
  good-counts (suc i) l = rw (add-one i) at (either (good-counts i (omega arith)) (eqb (kind b i) 1) refl) where
    either : (hosts_before b i ≤ 32) × (i ≤ hosts_before b i + 8) → (t : Bool) → eqb (kind b i) 1 ≡ t
        → (hosts_before b (i + 1) ≤ 32) × (i + 1 ≤ hosts_before b (i + 1) + 8)
    either p true e = let h = good-host i l (eqb-true _ _ e) in rw (hosts-host b i (eqb-true _ _ e)) (omega arith, omega arith)
    either p false e =
        let h = good-interface i l (eqb-false _ _ e) in rw (hosts-other b i (eqb-false _ _ e)) (p.0, omega arith)

  pub good-hosts : 1 ≤ hosts_before b (rows b)
  good-hosts =
      let z : rows b ≡ rows b - 1 + 1 = omega (arith, good-rows.0) in rw z (either (rows b - 1) (omega (arith, good-rows.0)) (eqb (kind b (rows b - 1)) 1) refl) where
        either : (i : ℕ) → i < rows b → (t : Bool) → eqb (kind b i) 1 ≡ t → 1 ≤ hosts_before b (i + 1)
        either i l true e = rw (hosts-host b i (eqb-true _ _ e)) (omega arith)
        either i l false e = rw (hosts-other b i (eqb-false _ _ e)) (good-interface i l (eqb-false _ _ e)).1
