-- Document 01, "Command packet": "Reply: vector (12), tag (16), then encrypted sequence number (2), payload length (2), payload; no additional
-- data. Its vector is 128, 0, the sequence number (2), eight zeros."
use Rattle.std.specs.Prelude.{ℕ, List, ◌∷◌, ◌++◌, replicate}
use Rattle.octets.specs.Little.{octets}

unfoldable pub reply_vector : ℕ → List ℕ
reply_vector n = 128 ∷ 0 ∷ octets 2 n ++ replicate 8 0

unfoldable pub reply_lead : ℕ → ℕ → List ℕ
reply_lead n m = octets 2 n ++ octets 2 m
