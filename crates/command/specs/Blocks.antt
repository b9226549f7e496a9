-- Document 01, "Blocks counted": the blocks that the check of a command enciphers, in order. After the outer checks those of the tag; where
-- it is right, those of the whole text; where the text's checks but the last pass, those of the chain of secrets.
use Rattle.std.specs.Prelude.{ℕ, List, ◌∷◌, ◌++◌}
use Rattle.gcm.specs.Gcm.{zeros, subkey, tag_of}
use Rattle.capability.specs.Enciphered.{Enciphered, under_key, past}
use Rattle.capability.specs.Chain.{right_blocks}
use Rattle.state.specs.declared.Rights.{Rights}
use Rattle.view.specs.declared.View.{View}
use Rattle.fields.specs.declared.Order.{Order}
use Rattle.fields.specs.Command.{additional, vector_of, encrypted}
use Rattle.command.specs.Command.{ciph_of, outer, tagged, text, order, named, judged}

-- the blocks of the tag: the subkey's, and its own
abbrev pub tag_blocks : (List ℕ → List ℕ) → List ℕ → List (List ℕ)
tag_blocks ciph p = zeros ∷ (tag_of ciph (subkey ciph) (vector_of p) (additional p) (encrypted p)).enciphered

unfoldable pub chained : View → Rights → List ℕ → Order → List Enciphered
chained v r p o = past (judged v r p o) (right_blocks (named r o).secret o.capability o.words)

unfoldable pub command_blocks : View → Rights → List ℕ → ℕ → List Enciphered
command_blocks v r p room =
    past (outer v p room)
    (under_key v.held.key (tag_blocks (ciph_of v) p)
    ++ past (tagged (ciph_of v) p)
    (under_key v.held.key (text (ciph_of v) p).enciphered ++ chained v r p (order (ciph_of v) p)))
