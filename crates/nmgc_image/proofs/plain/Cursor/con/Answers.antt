use Rattle.nmgc_image.proofs.{Vocabulary.ap, Vocabulary.arith, Vocabulary.decimal, Vocabulary.length, Vocabulary.map, Vocabulary.value_text, PlainLaws.con_text}
use Rattle.nmgc_image.proofs.plain.Cursor.con.Goals as goal

pub returns : goal.returns
returns c = record {
  text = con_text _ _ _ _ (decimal c.in_ok-tag.tag) (map value_text c.in_ok-values.values) c.in_ok-pass_con.ensures c.in_ok-tag.ensures.text
      c.in_ok-values.ensures.text;
  valid = (omega arith, omega (arith, ap length c.items.ensures));
  values = c.in_ok-values.ensures.valid;
}
