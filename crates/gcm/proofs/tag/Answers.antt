-- `gcm::tag` meets its contract: the tag is the hash ⊕ the encryption of J_0.
use mathlib.Core.Path.{◌≡◌, sym}
use mathlib.Core.List.{List}
use Prim.Native.Nat.{ℕ}
use Rattle.aes.specs.Prepared.{under}
use Rattle.ghash.specs.Ghash.{hash_of}
use Rattle.gcm.specs.Gctr.{xors}
use Rattle.gcm.specs.Gcm.{counter, tag_of}
use Rattle.gcm.proofs.GcmLaws.{tag-parts}
use Rattle.gcm.proofs.tag.Goals as goal

-- what the calls give, one after the other
in_parts : (ciph : List ℕ → List ℕ) (h iv a c s b e r : List ℕ) → s ≡ hash_of h a c → b ≡ counter iv 1 → e ≡ ciph b → r ≡ xors s e →
    r ≡ (tag_of ciph h iv a c).bytes
in_parts ciph h iv a c s b e r es eb ee er = rw (er, es, ee, eb) (sym (tag-parts ciph h iv a c))

pub returns : goal.returns
returns c =
    let a = c.args in
    in_parts (under a.p.now) a.h a.iv a.a.now a.c.now _ _ _ _ c.hash-s.ensures c.counter_block.ensures
    c.encrypt_prepared-e.ensures c.xor16.ensures
