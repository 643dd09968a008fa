use Rattle.nmgc_graph.proofs.{Vocabulary.take, Vocabulary.map, Vocabulary.All-get_or, Vocabulary.All-take, Vocabulary.Name, Vocabulary.Ref, Vocabulary.HasPlace, Searches.values_mark, Searches.still_placed, Searches.refs_placed}
use Rattle.nmgc_graph.proofs.search.Search.mark_names.Goals as goal

pub mark-requires : goal.mark-requires
mark-requires c =
    let before = c.args.self.now in
    let done = take c.loop-name.name-index c.args.names.now in
    let marks = values_mark (map Ref done) before (refs_placed before.marks done
    (All-take (HasPlace before.marks) c.loop-name.name-index c.args.names.now c.requires)) in
    let none : Name = record { maker = 0; serial = 0 } in
    rw c.loop-name.invariant (still_placed before.marks _ marks.places (Ref _)
    (All-get_or (HasPlace before.marks) c.args.names.now c.loop-name.name-index none c.loop-name-test.true c.requires))
