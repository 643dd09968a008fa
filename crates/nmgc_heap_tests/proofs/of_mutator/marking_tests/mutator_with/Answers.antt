use Rattle.nmgc_heap_tests.proofs.{Vocabulary.ℕ, Vocabulary.List, Vocabulary.subst, Vocabulary.sym, Vocabulary.ap, Vocabulary.set, Vocabulary.◌∙◌, Vocabulary.Layout, Vocabulary.IsLayout, Sampled.layout_is, Sampled.snapshot_mutator}
use Rattle.nmgc_heap_tests.proofs.of_mutator.marking_tests.mutator_with.Goals as goal

pub new-requires-clause-layout : goal.new-requires-clause-layout
new-requires-clause-layout c = subst (λ (l : Layout). IsLayout l) (sym c.small-layout.ensures) layout_is

pub returns-clause-is : goal.returns-clause-is
returns-clause-is c =
    snapshot_mutator c.small-layout.result c.in_ok-mutator.mutator c.reserve.new.self c.from_vec.result c.small-layout.ensures
    c.in_ok-mutator.ensures.new c.reserve.ensures.kept (c.from_vec.ensures ∙
    ap (λ (items : List ℕ). set (set (set items 0 72) 1 13) 3 184) (c.in_ok-registers.ensures.items_if_clones_equal (λ y e. e)))
