-- What the code's types say of a state, whose arrays are lists here: those that the promises need have their lengths. Every state of the code meets it; so does every loaded one,
-- and every call keeps it (proofs/Books, `typed-loaded`; proofs/Typed).
use Rattle.std.specs.Prelude.{◌≡◌, length}
use Rattle.state.specs.declared.State.{State}
use Rattle.state.specs.Flat.{Sized}

pub record Typed (s : State) : Type 0 where
  pub words : length s.rights.words ≡ 128
  pub secrets : length s.rights.secrets ≡ 128
  pub records : Sized s.records
