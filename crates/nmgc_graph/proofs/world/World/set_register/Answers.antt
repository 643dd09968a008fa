use Rattle.nmgc_graph.proofs.Vocabulary.{holding, replaced, holding_keeps}
use Rattle.nmgc_graph.proofs.world.World.set_register.Goals as goal

pub invariant_of-self : goal.invariant_of-self
invariant_of-self c =
    replaced (record {
      shared = c.self.inside.shared;
      mutators =
          c.self.inside.mutators;
    }) c.self.invariant c.args.mutator (rw (← c.self.view_is) at c.requires.mutator) _ c.items_mut.ensures.value _ _
    (λ s. holding s c.args.register c.args.value) c.write_register.ensures
    (holding_keeps _ c.args.mutator c.args.register c.args.value c.self.invariant (rw (← c.self.view_is) at c.requires.mutator)
    (rw (← c.self.view_is) at c.requires.known))
