-- `book::load` meets its contract: by what the book's judge gives.
use Rattle.std.proofs.Common.{◌≡◌, true, false, Result, Ok, Err, refl, sym, rules}
use Rattle.std.specs.Result.{is_ok}
use Rattle.refusal.specs.Numbers.{refusal_number}
use Rattle.refusal.proofs.NumberLaws.{above-zero}
use Rattle.grammar.specs.Faults.{Fault, fault, none, fault_in}
use Rattle.grammar.specs.declared.Fault as Declared
use Rattle.state.specs.declared.State.{State}
use Rattle.book.specs.States.{told, empty_state, loaded_with, loaded}
use Rattle.book.proofs.LoadLaws.{refused, accepted}
use Rattle.book.proofs.load.Goals as goal

module _ (f : Fault) (s : State) where
  ok-told : (v : Result Unit Declared.Fault) → is_ok v ≡ true → fault_in v ≡ f → told record { verdict = v; blocks = 0; state = s } ≡ loaded_with f s
  ok-told (Ok u) h e = rw (← e) (sym (accepted none s refl))
  ok-told (Err r) h e = cc

  err-told : (v : Result Unit Declared.Fault) → is_ok v ≡ false → fault_in v ≡ f → told record { verdict = v; blocks = 0; state = empty_state } ≡ loaded_with f s
  err-told (Ok u) h e = cc
  err-told (Err r) h e = rw (← e) (sym (refused (fault (refusal_number r.why) r.offset) s (above-zero r.why)))

pub returns-then-is_ok : goal.returns-then-is_ok
unfolding loaded
returns-then-is_ok c = rw c.fill.ensures (ok-told _ _ c.judge.result (search rules) c.judge.ensures)

pub returns-else-is_ok : goal.returns-else-is_ok
unfolding loaded
returns-else-is_ok c = rw c.empty_state.ensures (err-told _ _ c.judge.result (search rules) c.judge.ensures)
