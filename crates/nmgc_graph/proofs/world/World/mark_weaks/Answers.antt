use Rattle.nmgc_graph.proofs.{Vocabulary.take, Vocabulary.World, Vocabulary.with_weaks, Follows.places_stay, Weaks.weaks_mark}
use Rattle.nmgc_graph.proofs.world.World.mark_weaks.Goals as goal

pub mark_weak-requires : goal.mark_weak-requires
mark_weak-requires c =
    let w : World = record { shared = c.self.inside.shared; mutators = c.self.inside.mutators } in
    let done = take c.loop-weak.weak-index c.args.weaks.now in
    let marks = weaks_mark w c.self.invariant done c.args.search.now (rw (← c.self.view_is) at c.requires) in
    rw (
      c.loop-weak.invariant,
      ← c.self.view_is,
    ) (places_stay w c.args.search.now (with_weaks w c.args.search.now done) marks.0 marks.1 (rw (← c.self.view_is) at c.requires))
