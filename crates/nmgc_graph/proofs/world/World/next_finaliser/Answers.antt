use Rattle.nmgc_graph.proofs.Vocabulary.{with_finaliser, replaced, finaliser_keeps}
use Rattle.nmgc_graph.proofs.world.World.next_finaliser.Goals as goal

pub invariant_of-self : goal.invariant_of-self
invariant_of-self c =
    replaced (record {
      shared = c.self.inside.shared;
      mutators =
          c.self.inside.mutators;
    }) c.self.invariant c.args.mutator (rw (← c.self.view_is) at c.requires.mutator) _ c.items_mut.ensures.value _ _
    (λ s. with_finaliser s c.args.register) c.take_finaliser.ensures.state
    (finaliser_keeps _ c.args.mutator c.args.register c.self.invariant (rw (← c.self.view_is) at c.requires.mutator))
