-- `engine::dq_gcm_seal` meets its contract: whether `seal` sealed is whether the room holds the text.
use mathlib.Core.Path.{◌≡◌, refl, ap, ◌∙◌}
use mathlib.Core.Bool.{Bool, true, false}
use mathlib.Core.List.{List}
use Prim.Native.Nat.{ℕ}
use Rattle.gcm.specs.Gcm.{Sealed}
use Rattle.gcm.specs.Answers.{Sealing, sealing, seal_number}
use Rattle.engine.specs.Numbers.{seal_tag}
use Rattle.engine.proofs.dq_gcm_seal.Goals as goal

counted : (fit : Bool) (s : Sealed) (r : Sealing) → r ≡ sealing fit s → r.blocks ≡ (sealing fit s).blocks
counted fit s r e = ap (λ (x : Sealing). x.blocks) e

number-done : (fit : Bool) (s : Sealed) (r : Sealing) → r ≡ sealing fit s → r.sealed ≡ true → 0 ≡ seal_number fit
unfolding sealing seal_number
number-done true s r e h = refl
number-done false s r e h = cc

number-refused : (fit : Bool) (s : Sealed) (r : Sealing) → r ≡ sealing fit s → r.sealed ≡ false → 7 ≡ seal_number fit
unfolding sealing seal_number
number-refused true s r e h = cc
number-refused false s r e h = refl

tag-done : (fit : Bool) (s : Sealed) (r : Sealing) (tag : List ℕ) → r ≡ sealing fit s → r.sealed ≡ true → r.tag ≡ seal_tag fit s tag
unfolding sealing seal_tag
tag-done true s r tag e h = ap (λ (x : Sealing). x.tag) e
tag-done false s r tag e h = cc

tag-refused : (fit : Bool) (s : Sealed) (r : Sealing) (tag : List ℕ) → r ≡ sealing fit s → r.sealed ≡ false → tag ≡ seal_tag fit s tag
unfolding sealing seal_tag
tag-refused true s r tag e h = cc
tag-refused false s r tag e h = refl

pub returns-in-Some : goal.returns-in-Some
returns-in-Some c =
    let done = c.in-Some.ensures in
    (number-done _ _ _ done.0 refl, counted _ _ _ done.0, tag-done _ _ _ c.args.tag.now done.0 refl, done.1)

pub returns-in-None : goal.returns-in-None
returns-in-None c =
    let refused = c.in-None.ensures in
    (c.number.ensures ∙ number-refused _ _ _ refused.0 refl, counted _ _ _ refused.0, tag-refused _ _ _ c.args.tag.now refused.0 refl, refused.1)
