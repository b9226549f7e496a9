-- Interfaces of the same contents: what a command or a revocation that names one sees, and what a revocation leaves.
use mathlib.Core.Path.{◌≡◌, refl, sym, ◌∙◌}
use mathlib.Core.Logic.{◌≢◌, ◌⊎◌, inl, inr}
use mathlib.Core.Bool.{Bool, true, false, ◌&&◌, true≢false}
use mathlib.Core.List.{List}
use Prim.Native.Nat.{ℕ, ◌+◌, ◌*◌, ◌-◌, ◌<◌}
use native.Mathlib.Omega.{arith}
use borrow.Author.Tests.{ltb-true, eqb-true, eqb-false}
use lib.Dec.{eqb, ltb}
use lib.ListN.{length, get_or, set}
use lib.Seq.{get_or-set_same, get_or-set_other}
use Rattle.octets.specs.Checks.{pick}
use Rattle.octets.specs.Room.{filled}
use Rattle.octets.proofs.CheckLaws.{and_left, and_right}
use Rattle.state.specs.declared.Rights.{Rights}
use Rattle.state.specs.Flat.{with_words, with_word}
use Rattle.state.proofs.SoundLaws.{word-ind}
use Rattle.view.specs.Counted.{no_such}
use Rattle.view.specs.Right.{right_of}
use Rattle.view.proofs.CountedLaws.{such, place-there}
use Rattle.view.proofs.ViewLaws.{entries-there}
use Rattle.promises.specs.Stands.{Names}
use Rattle.promises.specs.Alike.{SameInterface}
use Rattle.promises.proofs.TestLaws.{named-such}

pub interface-refl : (r : Rights) (i : ℕ) → SameInterface r r i
interface-refl r i = record { commands = refl; entries = refl; secret = refl; owner = λ e l. refl; word = λ e l. refl }

module _ {r q : Rights} {i : ℕ} (h : SameInterface r q i) where
  pub interface-sym : SameInterface q r i
  interface-sym = record {
    commands = sym h.commands;
    entries = sym h.entries;
    secret = sym h.secret;
    owner = λ e l. sym (h.owner e (rw h.entries l));
    word = λ e l. sym (h.word e (rw h.entries l));
  }

  pub interface-trans : {t : Rights} → SameInterface q t i → SameInterface r t i
  interface-trans k = record {
    commands = h.commands ∙ k.commands;
    entries = h.entries ∙ k.entries;
    secret = h.secret ∙ k.secret;
    owner = λ e l. h.owner e l ∙ k.owner e (rw (← h.entries) l);
    word = λ e l. h.word e l ∙ k.word e (rw (← h.entries) l);
  }

-- no thing has that number
pub no_such_lem : (n count : ℕ) → ¬ Names n count → no_such n count ≡ true
no_such_lem n count d = by-test (no_such n count) refl where
  by-test : (b : Bool) → no_such n count ≡ b → b ≡ true
  by-test true e = refl
  by-test false e = absurd (d (such n count e))

-- ---- what is seen of entry e of interface i: the same, where they are there

abbrev pub SameRight : Rights → Rights → ℕ → ℕ → Type 0
SameRight r q i e =
    (right_of r i e ≡ right_of q i e)
    ⊎ ((¬ Names i r.interfaces) ⊎ ((no_such e (right_of r i e).entries ≡ true) × (no_such e (right_of q i e).entries ≡ true)))

module _ (r q : Rights) (i e : ℕ) (n : r.interfaces ≡ q.interfaces) where
  entry-same : SameInterface r q i → no_such i r.interfaces ≡ false → no_such e (get_or r.entries (i - 1) 0) ≡ false → right_of r i e ≡ right_of q i e
  unfolding right_of filled
  entry-same h x y =
      let l = such e _ y in
      rw (
        place-there i r.interfaces 8 x,
        place-there i q.interfaces 8 (rw n at x),
        place-there e (get_or r.entries (i - 1) 0) 128 y,
        place-there e (get_or q.entries (i - 1) 0) 128 (rw h.entries at y),
        h.commands,
        h.entries,
        h.secret,
        h.owner e l,
        h.word e l,
      )

  pub right-same : (Names i r.interfaces → SameInterface r q i) → SameRight r q i e
  right-same f = by-interface (no_such i r.interfaces) refl where
    by-entry : (b : Bool) → no_such e (get_or r.entries (i - 1) 0) ≡ b → no_such i r.interfaces ≡ false → SameInterface r q i → SameRight r q i e
    by-entry true y x h = inr (inr (rw (entries-there r i e x) y, rw (entries-there q i e (rw n at x), ← h.entries) y))
    by-entry false y x h = inl (entry-same h x y)

    by-interface : (b : Bool) → no_such i r.interfaces ≡ b → SameRight r q i e
    by-interface true x = inr (inl (λ l. true≢false (sym x ∙ named-such i _ l)))
    by-interface false x = by-entry _ refl x (f (such i _ x))

-- ---- another word at entry b of interface a, both counted from 0

pub word-elsewhere : (r : Rights) (a b x i : ℕ)
    → ((e : ℕ) → Names e (get_or r.entries (i - 1) 0) → (i - 1) * 16 + (e - 1) ≢ a * 16 + b) → SameInterface r (with_word r a b x) i
word-elsewhere r a b x i d =
    word-ind r a b x (λ t. SameInterface r t i)
    (λ l m. record {
      commands = refl;
      entries = refl;
      secret = refl;
      owner = λ e k. refl;
      word = λ e k. sym (get_or-set_other r.words (a * 16 + b) ((i - 1) * 16 + (e - 1)) x 0 (d e k));
    })
    (interface-refl r i)

-- stored in two lists
set_both : (ws vs : List ℕ) (k m x : ℕ) → k < length ws → k < length vs → get_or ws m 0 ≡ get_or vs m 0 → get_or (set ws k x) m 0 ≡ get_or (set vs k x) m 0
set_both ws vs k m x a b h = by_place (eqb m k) refl where
  by_place : (t : Bool) → eqb m k ≡ t → get_or (set ws k x) m 0 ≡ get_or (set vs k x) m 0
  by_place true q = rw (eqb-true m k q, get_or-set_same ws k x 0 a, get_or-set_same vs k x 0 b)
  by_place false q = rw (get_or-set_other ws k m x 0 (eqb-false m k q), get_or-set_other vs k m x 0 (eqb-false m k q)) h

pub word-both : (r q : Rights) (a b x i : ℕ) → length r.words ≡ 128 → length q.words ≡ 128 → SameInterface r q i
    → SameInterface (with_word r a b x) (with_word q a b x) i
unfolding with_word
word-both r q a b x i m n h = by-test (ltb a 8 && ltb b 16) refl where
  by-test : (t : Bool) → (ltb a 8 && ltb b 16) ≡ t
      → SameInterface (pick t (with_words r (set r.words (a * 16 + b) x)) r) (pick t (with_words q (set q.words (a * 16 + b) x)) q) i
  by-test true z =
      let low = ltb-true a 8 (and_left _ _ z) in
      let small = ltb-true b 16 (and_right (ltb a 8) _ z) in record {
        commands = h.commands;
        entries = h.entries;
        secret = h.secret;
        owner = h.owner;
        word = λ e l. set_both r.words q.words (a * 16 + b) ((i - 1) * 16 + (e - 1)) x (omega arith) (omega arith) (h.word e l);
      }
  by-test false z = h
