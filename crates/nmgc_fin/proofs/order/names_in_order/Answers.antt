use Rattle.nmgc_fin.proofs.{Vocabulary.rules, Vocabulary.◌≡◌, Vocabulary.◌≤◌, Vocabulary.List, Vocabulary.length, Vocabulary.subst, Vocabulary.◌∙◌, Vocabulary.arith, Vocabulary.inl, Vocabulary.inr, Vocabulary.Some, Vocabulary.Contains, Vocabulary.slice_get, Vocabulary.cases_eq, Vocabulary.slice_get_within, Vocabulary.Job, Ordered.within_of, Ordered.alike_of, Ordered.all_placed, Ordered.same_list, Ordered.read_list}
use Rattle.nmgc_fin.proofs.order.names_in_order.Goals as goal

pub place-requires-clause-within : goal.place-requires-clause-within
place-requires-clause-within c =
    let there : slice_get c.args.handled.now.by c.loop-list.list-index ≡ Some c.items.result.now =
    read_list c.args.handled.now.by c.items-list-items.result.now c.loop-list.list-index c.list-item.result c.items.result.now
    c.items-list-items.ensures c.loop-list-test.true c.list-item.is c.items.ensures in
    within_of c.args.handled.now.by c.args.count c.requires.within c.loop-list.list-index c.items.result.now (length c.loop-list.names.items) there
    c.loop-list.invariant.count

pub place-requires-clause-alike : goal.place-requires-clause-alike
place-requires-clause-alike c =
    let there : slice_get c.args.handled.now.by c.loop-list.list-index ≡ Some c.items.result.now =
    read_list c.args.handled.now.by c.items-list-items.result.now c.loop-list.list-index c.list-item.result c.items.result.now
    c.items-list-items.ensures c.loop-list-test.true c.list-item.is c.items.ensures in
    alike_of c.args.handled.now.by c.requires.alike c.loop-list.list-index c.loop-list.list-index c.items.result.now c.items.result.now there there

pub loop-list-preserved : goal.loop-list-preserved
loop-list-preserved c =
    let i = c.loop-list.list-index in
    let there : slice_get c.args.handled.now.by i ≡ Some c.items.result.now =
    read_list c.args.handled.now.by c.items-list-items.result.now c.loop-list.list-index c.list-item.result c.items.result.now
    c.items-list-items.ensures c.loop-list-test.true c.list-item.is c.items.ensures in
    record {
      count = c.place.ensures.count ∙ c.loop-list.invariant.count;
      placed = λ k xs x below e has. elim (cases_eq k i) [
        | inl same ↦ c.place.ensures.placed x (subst (λ (l : List Job).
            Contains l x) (same_list c.args.handled.now.by k i xs c.items.result.now e there same) has)
        | inr ne ↦ c.place.ensures.kept x (c.loop-list.invariant.placed k xs x (omega (arith, below, ne)) e has) (λ y d f.
            alike_of c.args.handled.now.by c.requires.alike i k c.items.result.now xs there e y x d has f)
      ];
    }

pub returns-clause-placed : goal.returns-clause-placed
returns-clause-placed c =
    let done : length c.args.handled.now.by ≤ c.loop-list.list-index = search rules in
    all_placed c.args.handled.now.by c.loop-list.names.items
    (λ k xs x e has. let lt = slice_get_within c.args.handled.now.by k xs e in c.loop-list.invariant.placed k xs x (omega (arith, lt, done)) e has)
