-- Document 01, "Numbers of refusal": what a command is answered, and what it writes. "An accepted command's answer also carries its other inner
-- fields", "a refusal gives 0 for these". What an accepted one writes is the payload.
use Rattle.std.specs.Prelude.{ℕ, ◌+◌, ◌-◌, List, length, replicate, Result, Ok, Err}
use Rattle.octets.specs.Checks.{pick, is_zero}
use Rattle.refusal.specs.declared.Refused.{Refused}
use Rattle.refusal.specs.Numbers.{refusal_number}
use Rattle.ghash.specs.Ghash.{blocks_in}
use Rattle.capability.specs.Calls.{written}
use Rattle.state.specs.declared.Rights.{Rights}
use Rattle.view.specs.declared.View.{View}
use Rattle.fields.specs.declared.Order.{Order}
use Rattle.fields.specs.Command.{payload_of}
use Rattle.command.specs.Command.{ciph_of, text, order, weighed, command_refusal}
use Rattle.command.specs.Blocks.{chained, command_blocks}
use Rattle.command.specs.declared.Accepted.{Accepted}

-- the number, how many blocks were counted, and the inner fields, all 0 on a refusal
pub record Heard : Type 0 where
  pub number : ℕ
  pub blocks : ℕ
  pub order : Order

unfoldable pub no_order : Order
no_order = record {
  client = 0;
  sequence = 0;
  group = 0;
  interface = 0;
  capability = 0;
  length = 0;
  command = 0;
  zeros = 0;
  words = replicate 4 0;
  secret = replicate 16 0;
}

-- an answer with that number and count, and the order if it is accepted
abbrev pub answering : ℕ → ℕ → Order → Heard
answering n b o = record { number = n; blocks = b; order = pick (is_zero n) o no_order }

-- read out of what the call hands back
abbrev pub heard_in : Result Accepted Refused → Heard
heard_in (Ok a) = record { number = 0; blocks = a.blocks; order = a.order }
heard_in (Err r) = record { number = refusal_number r.why; blocks = r.blocks; order = no_order }

-- what is answered and what is written of a command whose text is judged
abbrev pub text_heard : (List ℕ → List ℕ) → View → Rights → List ℕ → Heard
text_heard ciph v r p =
    answering (weighed v r p (order ciph p)) (2 + (blocks_in (length p - 32) + length (chained v r p (order ciph p)))) (order ciph p)

abbrev pub text_room : (List ℕ → List ℕ) → View → Rights → List ℕ → List ℕ → List ℕ
text_room ciph v r p room = written (weighed v r p (order ciph p)) (payload_of (text ciph p).bytes) room

unfoldable pub heard : View → Rights → List ℕ → List ℕ → Heard
heard v r p room =
    answering (command_refusal v r p (length room)) (length (command_blocks v r p (length room))) (order (ciph_of v) p)

unfoldable pub heard_room : View → Rights → List ℕ → List ℕ → List ℕ
heard_room v r p room = written (command_refusal v r p (length room)) (payload_of (text (ciph_of v) p).bytes) room
