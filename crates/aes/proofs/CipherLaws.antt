-- A block's encryption has sixteen bytes, whatever the lists are: it is a state.
use mathlib.Core.Path.{◌≡◌, refl}
use mathlib.Core.List.{List}
use Prim.Native.Nat.{ℕ}
use lib.ListN.{length}
use Rattle.aes.specs.Cipher.{last_round, cipher_by, cipher}
use Rattle.aes.specs.Prepared.{under}

pub cipher-length : (key block : List ℕ) → length (cipher key block) ≡ 16
unfolding cipher cipher_by last_round
cipher-length key block = refl

pub under-length : (p block : List ℕ) → length (under p block) ≡ 16
unfolding under cipher_by last_round
under-length p block = refl
