use Rattle.nmgc_image.proofs.{Vocabulary.name_text, Vocabulary.node_words, PlainLaws.node_text}
use Rattle.nmgc_image.proofs.plain.Cursor.entry.Goals as goal

pub returns : goal.returns
returns c = record {
  text = node_text _ _ _ _ (name_text c.in_ok-name.name) (node_words c.in_ok-node.node) c.in_ok-pass_node.ensures c.in_ok-name.ensures.text
      c.in_ok-node.ensures.text;
  writable = record { name = c.in_ok-name.ensures.valid; node = c.in_ok-node.ensures.valid; values = c.in_ok-node.ensures.values };
}
