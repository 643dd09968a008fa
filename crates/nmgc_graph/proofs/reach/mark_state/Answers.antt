use Rattle.nmgc_graph.proofs.{Vocabulary.IsPlaced, Vocabulary.all_front, Vocabulary.all_back, Searches.placed_after}
use Rattle.nmgc_graph.proofs.reach.mark_state.Goals as goal

pub mark_values-requires-2 : goal.mark_values-requires-2
mark_values-requires-2 c =
    let before = c.args.search.now in
    let state = c.args.state.now in
    rw (
      c.in_ok-mark_values.ensures,
      c.items.ensures,
      c.items-2.ensures,
    ) (placed_after before state.registers state.queue
    (all_front (IsPlaced before.marks) state.registers state.queue c.requires) (all_back (IsPlaced before.marks) state.registers state.queue c.requires))
