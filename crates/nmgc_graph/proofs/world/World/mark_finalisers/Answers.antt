use Rattle.nmgc_graph.proofs.{Vocabulary.take, Vocabulary.World, Kepts.finaliser_placed}
use Rattle.nmgc_graph.proofs.world.World.mark_finalisers.Goals as goal

pub mark_value-requires : goal.mark_value-requires
mark_value-requires c =
    let w : World = record { shared = c.self.inside.shared; mutators = c.self.inside.mutators } in
    rw (
      c.loop-weak.invariant,
      ← c.self.view_is,
    ) (finaliser_placed w c.self.invariant c.args.search.now (rw (← c.self.view_is) at c.requires)
    (take c.loop-weak.weak-index c.args.weaks.now) c.in-Some.parts (rw (← c.self.view_is) at c.in-Some.ensures.known))
