-- `packet::sealed::put_all` meets its contract: a piece put after the pieces so far is put with them, and ends before the room does.
use mathlib.Core.Path.{◌≡◌, refl, sym, ap, ap₂, ◌∙◌}
use mathlib.Core.List.{List, [], ◌∷◌, ◌++◌, append-nil}
use Prim.Native.Nat.{ℕ, ◌+◌, ◌≤◌, ◌<◌}
use native.Mathlib.Omega.{arith}
use lib.ListN.{length, get_or, take, drop, length-append, take-append-drop}
use native.Mathlib.Nat.{add-zero}
use Rattle.std.specs.Borrow.{Bor}
use Rattle.std.specs.List.{flat_map}
use Rattle.std.proofs.lemmas.List.{take_more}
use Rattle.std.proofs.lemmas.Grind.{flat_map-append}
use Rattle.octets.specs.Room.{placed}
use Rattle.octets.proofs.RoomLaws.{placed-ind}
use Rattle.octets.proofs.PlacedLaws.{placed-next}
use Rattle.packet.proofs.sealed.put_all.Goals as goal

none : (d : List ℕ) (at : ℕ) → placed d at [] ≡ d
none d at = placed-ind d at [] (λ l. l ≡ d) (λ h. rw (append-nil, add-zero) (take-append-drop at d)) (λ h. refl)

abbrev bytes : Bor (List ℕ) → List ℕ
bytes x = x.now

abbrev piece : List (Bor (List ℕ)) → ℕ → Bor (List ℕ)
piece xs i = get_or xs i (record { ref_ptr = (0, 0); now = [] })

abbrev so_far : List (Bor (List ℕ)) → ℕ → List ℕ
so_far xs i = flat_map bytes (take i xs)

module _ (xs : List (Bor (List ℕ))) (i : ℕ) (h : i < length xs) where
  more : so_far xs (i + 1) ≡ so_far xs i ++ (piece xs i).now
  more =
      ap (flat_map bytes) (take_more xs i _ h)
      ∙ flat_map-append bytes (take i xs) (piece xs i ∷ [])
      ∙ ap (λ (l : List ℕ). so_far xs i ++ l) (append-nil (piece xs i).now)

  fits : length (so_far xs i) + length (piece xs i).now ≤ length (flat_map bytes xs)
  fits =
      let whole = ap (flat_map bytes) (sym (take-append-drop (i + 1) xs)) ∙ flat_map-append bytes (take (i + 1) xs) (drop (i + 1) xs) in
      omega (
        arith,
        ap length whole,
        length-append (so_far xs (i + 1)) (flat_map bytes (drop (i + 1) xs)),
        ap length more,
        length-append (so_far xs i) (piece xs i).now,
      )

pub loop-piece-init : goal.loop-piece-init
loop-piece-init c = record { there = sym (none c.args.room.now c.args.at); next = omega arith }

pub overflow_add-at : goal.overflow_add-at
overflow_add-at c =
    let l = c.loop-piece in
    omega (arith, l.invariant.next, fits c.args.pieces.now l.piece-index c.loop-piece-test.true, c.requires)

pub loop-piece-preserved : goal.loop-piece-preserved
loop-piece-preserved c =
    let a = c.args in
    let l = c.loop-piece in
    let x = piece a.pieces.now l.piece-index in
    let grown = more a.pieces.now l.piece-index c.loop-piece-test.true in
    let before = so_far a.pieces.now l.piece-index in
    record {
      there =
          c.put.ensures
          ∙ ap₂ (λ (d : List ℕ) (n : ℕ). placed d n x.now) l.invariant.there l.invariant.next
          ∙ placed-next a.room.now a.at before (a.at + length before) x.now refl (omega (arith, fits a.pieces.now l.piece-index c.loop-piece-test.true, c.requires))
          ∙ ap (placed a.room.now a.at) (sym grown);
      next = omega (arith, l.invariant.next, ap length grown, length-append before x.now);
    }
