-- What a refusal leaves in the lent tag.
use Rattle.std.specs.Prelude.{ℕ, Bool, true, false, List}
use Rattle.gcm.specs.Gcm.{Sealed}

-- by whether the room holds the text
unfoldable pub seal_tag : Bool → Sealed → List ℕ → List ℕ
seal_tag true s tag = s.tag
seal_tag false s tag = tag
