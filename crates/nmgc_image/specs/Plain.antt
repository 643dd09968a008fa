-- Node lines that are read without being cut into tokens.
use Rattle.std.specs.Prelude.{◌≡◌, ℕ, List, ◌∷◌, ◌++◌, All}
use Rattle.nmgc_world_spec.specs.{declared.node.Node.Node, World.held_by}
use Rattle.nmgc_journal.specs.Text.{IsValue}
use Rattle.nmgc_io.specs.{Spaced.after_spaces, Text.spaced}
use Rattle.nmgc_image.specs.{declared.image.Entry.Entry, Image.IsNode, Image.IsWritable, Image.node_words, Image.entry_words}

-- a text begins with the node line of an object, followed by this rest
pub record IsPlain (bytes : List ℕ) (entry : Entry) (rest : List ℕ) : Type 0 where
  pub text : bytes ≡ spaced (entry_words entry) ++ 10 ∷ rest
  pub writable : IsWritable entry

-- a text begins with the tokens of a node, each behind a space, and a line feed
pub record IsPlainNode (bytes : List ℕ) (node : Node) (rest : List ℕ) : Type 0 where
  pub text : bytes ≡ after_spaces (node_words node) ++ 10 ∷ rest
  pub valid : IsNode node
  pub values : All IsValue (held_by node)
