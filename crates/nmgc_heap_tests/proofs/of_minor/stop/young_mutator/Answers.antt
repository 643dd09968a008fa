use Rattle.std.proofs.Common.{ℕ, List, ap, set, ◌∙◌, refl}
use Rattle.nmgc_heap_tests.proofs.of_minor.stop.young_mutator.Goals as goal

pub returns : goal.returns
returns c = record {
  registers = c.from_vec.ensures ∙ ap (λ (items : List ℕ). set (set items 0 4160) 1 13) (c.in_ok-registers.ensures.items_if_clones_equal (λ y e. e));
  queue = c.new-3.ensures.words;
  nursery = refl;
  recorded = c.clear.ensures.items;
  weaks = c.clear-2.ensures.items;
}
