use Rattle.nmgc_image.proofs.{Vocabulary.[], Vocabulary.◌∷◌, Vocabulary.All-from_recursion, Vocabulary.value_text, Vocabulary.IsValue, PlainLaws.pair_text}
use Rattle.nmgc_image.proofs.plain.Cursor.pair.Goals as goal

pub returns-clause-text : goal.returns-clause-text
returns-clause-text c =
    rw c.pair.ensures (pair_text _ _ _ _ (value_text c.in_ok-first.first) (value_text c.in_ok-second.second) c.in_ok-first.ensures.text
    c.in_ok-second.ensures.text c.in_ok-pass.ensures)

pub returns-clause-valid : goal.returns-clause-valid
returns-clause-valid c = rw c.pair.ensures (All-from_recursion IsValue (c.in_ok-first.first ∷ c.in_ok-second.second ∷
    []) (c.in_ok-first.ensures.valid, (c.in_ok-second.ensures.valid, tt)))
