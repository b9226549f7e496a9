-- Document 01, "Numbers of refusal": "Every answer carries a number (0 for accepted) and a count of AES blocks." Read out of what a call hands back,
-- whose `Ok` holds the count and whose `Err` both.
use Rattle.std.specs.Prelude.{ℕ, Result, Ok, Err}
use Rattle.refusal.specs.declared.Refused.{Refused}
use Rattle.refusal.specs.Numbers.{refusal_number}

pub record Answer : Type 0 where
  pub number : ℕ
  pub blocks : ℕ

abbrev pub refused : Refused → Answer
refused r = record { number = refusal_number r.why; blocks = r.blocks }

abbrev pub accepted : ℕ → Answer
accepted n = record { number = 0; blocks = n }

-- the answer of a call whose `Ok` is the count
abbrev pub said : Result ℕ Refused → Answer
said (Ok n) = accepted n
said (Err r) = refused r
