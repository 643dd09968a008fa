use Rattle.nmgc_image.proofs.Vocabulary.{◌≡◌, ◌++◌, map, length, All, value_text, IsValue, after_spaces}
use Rattle.nmgc_image.proofs.plain.Cursor.any_values.Given as goal

-- the values so far were read
abbrev pub invariant-more : goal.invariant-more
invariant-more l = record {
  text : l.initial.self.rest.now ≡ after_spaces (map value_text l.values) ++ l.self.rest.now;
  valid : All IsValue l.values;
}

abbrev pub decreases-more : goal.decreases-more
decreases-more l = length l.self.rest.now
