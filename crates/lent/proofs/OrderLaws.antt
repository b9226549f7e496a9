-- The order of zeros that std derives is the one that a refusal gives.
use mathlib.Core.Path.{◌≡◌, sym, subst, ◌∙◌}
use mathlib.Core.List.{List}
use Prim.Native.Nat.{ℕ, ◌<◌}
use borrow.Author.Rules.{rules}
use lib.ListN.{replicate}
use Rattle.std.specs.Array.{AllOfLen}
use Rattle.std.proofs.lemmas.List.{ext_get_or, length-replicate, get_or-replicate}
use Rattle.fields.specs.declared.Order.{Order}
use Rattle.command.specs.Heard.{no_order}

zeros : (xs : List ℕ) (n : ℕ) → AllOfLen (λ (x : ℕ). x ≡ 0) xs n → xs ≡ replicate n 0
zeros xs n h =
    ext_get_or 0 xs (replicate n 0) (h.long ∙ sym (length-replicate n 0)) (λ i l.
    let k = subst (λ (m : ℕ). i < m) h.long l in
    h.at i 0 k ∙ sym (get_or-replicate n i 0 0 k))

-- each number is 0, and so is each word and each byte
pub no-order : (o : Order) → (o.client ≡ 0) × ((o.sequence ≡ 0) × ((o.group ≡ 0) × ((o.interface ≡ 0) × ((o.capability ≡ 0) × ((o.length ≡ 0)
    × ((o.command ≡ 0) × ((o.zeros ≡ 0) × (AllOfLen (λ (x : ℕ). x ≡ 0) o.words 4 × AllOfLen (λ (x : ℕ). x ≡ 0) o.secret 16)))))))) → o ≡ no_order
unfolding no_order
no-order o (a, (b, (c, (d, (e, (f, (g, (h, (w, s))))))))) = search (rules, zeros o.words 4 w, zeros o.secret 16 s)
