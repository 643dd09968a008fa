use Rattle.nmgc_graph.proofs.{Vocabulary.take, Vocabulary.All-get_or, Vocabulary.All-take, Vocabulary.Nil, Vocabulary.IsPlaced, Searches.values_mark, Searches.still_placed}
use Rattle.nmgc_graph.proofs.search.Search.mark_values.Goals as goal

pub mark_value-requires : goal.mark_value-requires
mark_value-requires c =
    let marks = values_mark (take c.loop-value.value-index c.args.values.now) c.args.self.now
    (All-take (IsPlaced c.args.self.now.marks) c.loop-value.value-index c.args.values.now c.requires) in
    rw c.loop-value.invariant (still_placed c.args.self.now.marks _ marks.places _
    (All-get_or (IsPlaced c.args.self.now.marks) c.args.values.now c.loop-value.value-index Nil c.loop-value-test.true c.requires))
