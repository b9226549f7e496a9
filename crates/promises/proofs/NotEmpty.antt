-- Demand 3, "And it isn't empty": the two dairies' days meet every hypothesis of `loads-apart`, and in them the panel's request, proof and first command
-- are accepted, and its other commands refused by 14 and by 18.
use mathlib.Core.Path.{◌≡◌, refl, sym, ap, subst, ◌∙◌}
use mathlib.Core.Logic.{inl, inr}
use mathlib.Core.List.{List, [], ◌∷◌, map}
use Prim.Native.Nat.{ℕ}
use native.Mathlib.Omega.{arith}
use lib.ListN.{length}
use Rattle.octets.specs.Little.{number, octets}
use Rattle.octets.specs.Same.{same}
use Rattle.book.specs.States.{loaded}
use Rattle.state.specs.declared.State.{State}
use Rattle.fields.specs.Command.{open_lead}
use Rattle.packet.specs.Sealed.{sealed_packet}
use Rattle.client.specs.Seal.{command_bytes}
use Rattle.promises.specs.Dairies.{north, south, the_panel, the_filler, panel, greeting, fresh, third, room, hello, proven, narrower, fills}
use Rattle.promises.specs.Dairies.{strays, takes, fills_again, north_day, south_day, NotEmpty}
use Rattle.promises.specs.Series.{after}
use Rattle.promises.specs.Step.{Call, next}
use Rattle.promises.specs.Told.{mine, keep, Told, heard, AllNamed}
use Rattle.promises.proofs.Alike.{alike_refl}
use Rattle.promises.proofs.Alone.{named-whole, heard-alone}
use Rattle.promises.proofs.Books.{alike-loads}
use Rattle.promises.proofs.Dairies.{panel-there, mixers-apart, books-alike, scale-asks, mixer-loses}
use Rattle.promises.proofs.Handshake.{request-accepted, proof-accepted}
use Rattle.promises.proofs.Panel.{Panel, narrower-reached, narrower-words, well-made, connected, fills-accepted, fills-leaves, strays-refused}
use Rattle.promises.proofs.Panel.{again-refused, takes-leaves, names}
use Rattle.promises.proofs.Refused.{refusal-keeps}

-- the panel's calls and the revocation on the filler, by themselves
abbrev alone : List Call
alone = hello ∷ proven ∷ fills ∷ strays ∷ takes ∷ fills_again ∷ []

kept : (keep (mine the_panel the_filler) north_day ≡ alone) × (keep (mine the_panel the_filler) south_day ≡ alone)
unfolding command_bytes sealed_packet open_lead octets number same
kept = (refl, refl)

-- ---- the states of that run

abbrev s0 : State
s0 = (loaded north).state

abbrev s2 : State
s2 = next (next s0 hello) proven

abbrev s3 : State
s3 = next s2 fills

abbrev s4 : State
s4 = next s3 strays

abbrev s5 : State
s5 = next s4 takes

panel2 : Panel s2 0 15
unfolding after
panel2 = connected

panel3 : Panel s3 1 15
panel3 = fills-leaves s2 15 panel2 refl narrower narrower-reached 12 narrower-words refl

panel4 : Panel s4 1 15
panel4 = subst (λ s. Panel s 1 15) (sym (refusal-keeps s3 strays (λ e. omega (arith, strays-refused s3 1 15 panel3 (omega arith)))).0) panel3

panel5 : Panel s5 1 11
panel5 = takes-leaves s4 1 panel4

-- ---- the hypotheses

alone-named : AllNamed the_panel the_filler s0 alone
alone-named = (
  tt,
  (
    tt,
    (
      names s2 0 15 panel2 1 1 (omega arith) (omega arith) narrower narrower-reached (inl refl),
      (
        names s3 1 15 panel3 2 9 (omega arith) (omega arith) narrower narrower-reached (inr (λ n. omega (arith, panel3.holds.interfaces))),
        (tt, (names s5 1 11 panel5 2 1 (omega arith) (omega arith) narrower narrower-reached (inl refl), tt)),
      ),
    ),
  ),
)

day-named : AllNamed the_panel the_filler s0 north_day
day-named =
    let a = alike-loads the_panel the_filler north south panel-there books-alike in
    named-whole the_panel the_filler s0 s0 north_day (alike_refl a.first a.host) (rw kept.0 alone-named)

-- ---- the answers

abbrev numbers_in : List Told → List ℕ
numbers_in ts = map (λ (t : Told). t.said.number) ts

alone-numbers : numbers_in (heard the_panel s0 alone) ≡ 0 ∷ 0 ∷ 0 ∷ 14 ∷ 18 ∷ []
unfolding command_bytes sealed_packet open_lead octets number same
alone-numbers =
    let asked = request-accepted s0 1 panel greeting fresh third room room well-made in
    let proved = proof-accepted s0 1 panel greeting fresh third room room well-made in
    let filled = fills-accepted s2 15 panel2 refl narrower narrower-reached 12 narrower-words refl in
    let strayed = strays-refused s3 1 15 panel3 (omega arith) in
    let again = again-refused s5 1 11 panel5 (omega arith) (λ e. absurd (omega arith)) in
    λ j. asked j ∷ proved j ∷ filled j ∷ strayed j ∷ again j ∷ []

pub not-empty : NotEmpty
not-empty =
    let a = alike-loads the_panel the_filler north south panel-there books-alike in record {
      host = panel-there;
      books = books-alike;
      secrets = mixers-apart.0;
      rights = mixers-apart.1;
      calls = kept.0 ∙ sym kept.1;
      named = day-named;
      numbers =
          ap numbers_in (heard-alone the_panel the_filler s0 north_day a.first a.host day-named ∙ ap (heard the_panel s0) kept.0)
          ∙ alone-numbers;
      days = λ e. let long : ◌≡◌ {A = ℕ} 9 10 = ap length e in absurd (omega arith);
      asked = scale-asks;
      revoked = mixer-loses;
    }
