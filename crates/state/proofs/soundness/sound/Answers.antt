-- `state::sound` meets its contract: each host's length, and each interface.
use mathlib.Core.Path.{◌≡◌, sym, ◌∙◌}
use Prim.Native.Nat.{ℕ, ◌*◌, ◌≤◌}
use native.Mathlib.Omega.{arith}
use lib.ListN.{get_or}
use borrow.Author.Rules.{rules}
use borrow.Author.Tests.{tests, le-leb}
use Rattle.std.proofs.lemmas.Iterator.Search.{all_from_yields_List}
use Rattle.octets.specs.Range.{between}
use Rattle.state.specs.Sound.{all_below, all_within, interface_sound, all_interfaces, sound_rights}
use Rattle.state.proofs.BelowLaws.{counted, all-range}
use Rattle.state.proofs.soundness.sound.Goals as goal

pub returns-then-all : goal.returns-then-all
unfolding sound_rights all_within all_interfaces
returns-then-all c =
    let r = c.args.rights in
    let small = λ (i : ℕ). between 1 256 (get_or r.sizes i 0) in
    let sizes : c.all.result ≡ all_below small r.hosts = all_from_yields_List small _ _ c.all.result c.all.ensures.ran (counted r.hosts (rw c.from.ensures)) (λ x b q k. search (rules, tests)) ∙ all-range small r.hosts in
    let test = λ (i : ℕ). interface_sound r.words (i * 16) (get_or r.spans i 0) (get_or r.commands i 0) (get_or r.entries i 0) in
    let each : c.all-then-all.result ≡ all_below test r.interfaces = all_from_yields_List test _ _ c.all-then-all.result c.all-then-all.ensures.ran (counted r.interfaces (rw c.from-then-all.ensures)) (λ x b q k. search (rules, tests)) ∙ all-range test r.interfaces in
    let n : r.hosts ≤ 32 = omega arith in
    let m : r.interfaces ≤ 8 = omega arith in
    rw (le-leb r.hosts 32 n, le-leb r.interfaces 8 m, sym sizes ∙ c.if-all.true) each

pub returns-else-all : goal.returns-else-all
unfolding sound_rights all_within
returns-else-all c =
    let r = c.args.rights in
    let small = λ (i : ℕ). between 1 256 (get_or r.sizes i 0) in
    let sizes : c.all.result ≡ all_below small r.hosts = all_from_yields_List small _ _ c.all.result c.all.ensures.ran (counted r.hosts (rw c.from.ensures)) (λ x b q k. search (rules, tests)) ∙ all-range small r.hosts in
    let n : r.hosts ≤ 32 = omega arith in
    let m : r.interfaces ≤ 8 = omega arith in
    rw (le-leb r.hosts 32 n, le-leb r.interfaces 8 m, sym sizes ∙ c.if-all.false) c.if-all.false
