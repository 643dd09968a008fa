use Rattle.nmgc_field_checker.proofs.{Vocabulary.Grows, Vocabulary.Joins, Vocabulary.flat_map, Vocabulary.option_to_list, Vocabulary.take}
use Rattle.nmgc_field_checker.proofs.search.add_targets.Given as goal

abbrev pub invariant-loop-field : goal.invariant-loop-field
invariant-loop-field l = record {
  joins : Joins l.fn.found (flat_map option_to_list (take l.field-index l.field-items)) l.found;
  grows : Grows l.fn.found.items l.found.items;
}
