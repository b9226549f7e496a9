-- What a packet asks for in a state: the interface, the entry and the command that its text names.
use Rattle.std.specs.Prelude.{◌≡◌, List, ℕ}
use Rattle.state.specs.declared.State.{State}
use Rattle.promises.specs.Facts.{text_in}
use Rattle.promises.specs.Places.{interface_said, entry_said, command_said}

pub record Asks (s : State) (p : List ℕ) (i e c : ℕ) : Type 0 where
  pub interface : interface_said (text_in s p) ≡ i
  pub entry : entry_said (text_in s p) ≡ e
  pub command : command_said (text_in s p) ≡ c
