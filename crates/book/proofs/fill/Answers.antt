-- `book::fill` meets its contract: a good book's contents have room in the arrays.
use Rattle.std.proofs.Common.{◌≡◌, ap, refl, length, of_calls, replicate, ℕ, List, ◌-◌, rules, sym, ◌∙◌, arith}
use Rattle.std.proofs.lemmas.List.{length-replicate}
use Rattle.layout.specs.Layout.{rows, name}
use Rattle.grammar.specs.Checks.{fault_of}
use Rattle.book.specs.Contents.{contents_of, host_count}
use Rattle.book.specs.States.{state_of, empty_state}
use Rattle.state.specs.declared.State.{State}
use Rattle.book.specs.Columns.{contents, InRoom}
use Rattle.book.proofs.ContentLaws.{hosts-rows, good-room, names-columns, labels-columns}
use Rattle.book.proofs.fill.Goals as goal

pub overflow_sub-m : goal.overflow_sub-m
overflow_sub-m c = omega (arith, hosts-rows c.args.book.now)

-- what a good book has room for, at the counts as they were read
room : (b : List ℕ) (h r : ℕ) → h ≡ host_count b → r ≡ rows b → (fault_of b).number ≡ 0 → InRoom b h (r - h)
room b h r eh er good = rw (eh, er) (good-room b good)

-- an empty state's arrays
empty-names : (s : State) → s ≡ empty_state → s.names ≡ replicate 8192 0
unfolding empty_state
empty-names s e = ap (λ (s : State). s.names) e

empty-labels : (s : State) → s ≡ empty_state → s.labels ≡ replicate 2048 0
unfolding empty_state
empty-labels s e = ap (λ (s : State). s.labels) e

zeros : (n : ℕ) (xs : List ℕ) → xs ≡ replicate n 0 → length xs ≡ n
zeros n xs e = ap length e ∙ length-replicate n 0

pub put_strings-requires : goal.put_strings-requires
put_strings-requires c =
    let r = room _ _ _ c.host_count-h.ensures c.rows.ensures c.requires.0 in
    let e = empty-names _ c.requires.1 in
    let n = zeros 8192 _ e in
    λ k. ((refl, tt), (omega (arith, r.hosts), rw n e, omega (arith, r.hosts), search of_calls))

pub put_strings-requires-2 : goal.put_strings-requires-2
put_strings-requires-2 c =
    let r = room _ _ _ c.host_count-h.ensures c.rows.ensures c.requires.0 in
    let e = empty-labels _ c.requires.1 in
    let n = zeros 2048 _ e in
    λ k. ((refl, tt), (omega (arith, r.interfaces), rw n e, omega (arith, r.hosts, r.interfaces), search of_calls))

pub rights-state-requires : goal.rights-state-requires
rights-state-requires c = room _ _ _ c.host_count-h.ensures c.rows.ensures c.requires.0

pub returns : goal.returns
unfolding contents_of state_of empty_state
returns c =
    let b = c.args.book.now in
    let h = c.host_count-h.result in
    let m = c.rows.result - h in
    let r = room _ _ _ c.host_count-h.ensures c.rows.ensures c.requires.0 in
    let e : contents b h m ≡ contents_of b = rw (c.host_count-h.ensures, c.rows.ensures) in
    let n = zeros 8192 _ (empty-names _ c.requires.1) in
    let l = zeros 2048 _ (empty-labels _ c.requires.1) in
    let v = c.put_strings.ensures (name b) (λ k s l p. search rules) r.names in
    let w = c.put_strings-2.ensures (name b) (λ k s l p. search rules) r.labels in
    rw (← e) (λ t. record {
      rights = c.rights-state.ensures t;
      records = ap (λ (s : State). s.records) c.requires.1 t;
      names = (rw n at v ∙ sym (names-columns b h m)) t;
      labels = (rw l at w ∙ sym (labels-columns b h m)) t;
    })
