-- Document 01, "Handshake": a handshake that is well made is accepted, and opens the host's connection under the key of its two challenges.
use mathlib.Core.Path.{◌≡◌, ◌∙◌}
use mathlib.Core.Bool.{true}
use mathlib.Core.List.{List, [], ◌∷◌, ◌++◌}
use Prim.Native.Nat.{ℕ, ◌-◌, ◌≤◌}
use native.Mathlib.Omega.{arith}
use borrow.Author.Tests.{eq-eqb, le-ltb}
use lib.ListN.{length, length-append}
use lib.Seq.{take_all, take_at, drop_at}
use Rattle.octets.specs.Little.{number}
use Rattle.octets.specs.Room.{number_at}
use Rattle.octets.proofs.CheckLaws.{is_zero-false}
use Rattle.octets.proofs.RangeLaws.{both-between}
use Rattle.octets.proofs.SameLaws.{same_refl}
use Rattle.state.specs.declared.State.{State}
use Rattle.state.specs.declared.transitions.Phase.TheVariants.{Waiting}
use Rattle.state.specs.Records.{requested}
use Rattle.state.specs.Sound.{sound_rights}
use Rattle.view.specs.View.{see}
use Rattle.view.proofs.CountedLaws.{place-there}
use Rattle.gateway.specs.Proof.{second, third, proof_refusal, proving}
use Rattle.gateway.specs.Request.{form_refusal, request_refusal, requesting}
use Rattle.promises.specs.Handshake.{Handshake, HandshakeLeaves}
use Rattle.promises.specs.Left.{Leaves}
use Rattle.promises.specs.Places.{record_at}
use Rattle.promises.specs.Series.{after}
use Rattle.promises.specs.Stands.{Names}
use Rattle.promises.specs.Step.{Call, request, proof, answer, next}
use Rattle.promises.specs.Subject.{subject}
use Rattle.promises.proofs.Found.{found-low}
use Rattle.promises.proofs.Left.{accepted-leaves}
use Rattle.promises.proofs.TestLaws.{named-such}
use Rattle.promises.proofs.Typed.{typed-kept}

-- a proof of 32 bytes that gives a waiting host's challenge back is accepted
proof-passes : (s : State) (h : ℕ) (p room : List ℕ) → sound_rights s.rights ≡ true → Names h s.rights.hosts → length p ≡ 32
    → (record_at s h).phase ≡ Waiting → second p ≡ (record_at s h).challenge → 20 ≤ length room → (answer s (proof h p room)).number ≡ 0
unfolding answer proving proof_refusal see
proof-passes s h p room sound there size waits read fits =
    let such = named-such h s.rights.hosts there in
    rw (place-there h s.rights.hosts 32 such, sound, such, eq-eqb (length p) 32 size, waits, read, same_refl, le-ltb (length room) 20 fits)

module _ (s : State) (h : ℕ) (name p f c room other : List ℕ) (made : Handshake s h name p f c (length room) (length other)) where
  abbrev asks : Call
  asks = request p f room

  abbrev proves : Call
  proves = proof h (f ++ c) other

  -- ---- the request

  -- no check of its form refuses it
  form-passes : form_refusal s.rights p f ≡ 0
  unfolding form_refusal number
  form-passes =
      rw (
        made.sound,
        eq-eqb (length f) 16 made.second,
        both-between 21 276 (length p) (omega arith, omega arith),
        eq-eqb (number_at p 0 2) 1 made.asks.version,
        eq-eqb (number_at p 2 2) (length p - 20) (omega arith),
      )

  -- it is about host h
  asked-host : subject s asks ≡ h
  asked-host = rw made.asks.named made.host

  pub request-accepted : (answer s asks).number ≡ 0
  unfolding answer requesting request_refusal
  request-accepted = rw (form-passes, asked-host, is_zero-false h (λ e. omega arith), le-ltb (length room) 32 made.asked_room)

  asked-left : Leaves s asks
  asked-left = accepted-leaves s asks made.typed request-accepted tt

  -- the host waits, with challenge 2
  host-waits : record_at (next s asks) h ≡ requested f
  host-waits = rw asked-host at asked-left.own

  -- ---- the proof: challenge 2 and challenge 3

  second-there : second (f ++ c) ≡ f
  second-there = take_at f c 16 made.second

  third-there : third (f ++ c) ≡ c
  third-there = rw (drop_at f c 16 made.second) (take_all 16 c (omega arith))

  host-there : Names h s.rights.hosts
  host-there = (made.there, rw made.host at (found-low s.rights s.names name))

  pub proof-accepted : (answer (next s asks) proves).number ≡ 0
  proof-accepted =
      proof-passes (next s asks) h (f ++ c) other
      (rw asked-left.rights made.sound)
      (rw asked-left.rights host-there)
      (omega (arith, length-append f c))
      (rw host-waits)
      (rw host-waits second-there)
      made.proved_room

  proved-left : Leaves (next s asks) proves
  proved-left = accepted-leaves (next s asks) proves (typed-kept s asks made.typed) proof-accepted tt

  -- ---- both

  pub handshake-opens : HandshakeLeaves s h f c (after s (asks ∷ proves ∷ []))
  unfolding after
  handshake-opens = record {
    own = rw (second-there, third-there) at proved-left.own;
    others = λ k l d. proved-left.others k l d ∙ asked-left.others k l (rw asked-host d);
    rights = proved-left.rights ∙ asked-left.rights;
    names = proved-left.names ∙ asked-left.names;
    labels = proved-left.labels ∙ asked-left.labels;
  }
