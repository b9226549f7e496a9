-- What the calls share: an answer of a number alone, and what a call about a host hands back: its answer, and the records after it.
use Rattle.std.specs.Prelude.{ℕ, ◌-◌, Result, Ok, Err}
use Rattle.octets.specs.Checks.{pick, is_zero}
use Rattle.refusal.specs.declared.Refused.{Refused}
use Rattle.refusal.specs.Answer.{Answer, accepted, refused}
use Rattle.state.specs.declared.Records.{Records}
use Rattle.state.specs.declared.transitions.Record.{Record}
use Rattle.state.specs.Flat.{with_record}
use Rattle.gateway.specs.declared.Done.{Done}

-- an answer of a number alone; no block is enciphered
abbrev pub plain : ℕ → Answer
plain n = record { number = n; blocks = 0 }

-- "A refusal changes no record": the records after a call about host h with that number, which leaves the host in t if it is accepted
abbrev pub moved : ℕ → Records → ℕ → Record → Records
moved n s h t = pick (is_zero n) (with_record s (h - 1) t) s

-- the answer, and the records after the call
pub record Changed : Type 0 where
  pub answer : Answer
  pub records : Records

-- read out of what the call hands back, of the records at entry
abbrev pub changed_in : Records → Result (Done Records) Refused → Changed
changed_in s (Ok d) = record { answer = accepted d.blocks; records = d.after }
changed_in s (Err r) = record { answer = refused r; records = s }
