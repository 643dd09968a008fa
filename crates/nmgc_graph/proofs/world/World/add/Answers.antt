use Rattle.nmgc_graph.proofs.Vocabulary.{with_new, replaced, born_keeps}
use Rattle.nmgc_graph.proofs.world.World.add.Goals as goal

pub invariant_of-self-2 : goal.invariant_of-self-2
invariant_of-self-2 c =
    replaced (record {
      shared = c.self.inside.shared;
      mutators =
          c.self.inside.mutators;
    }) c.self.invariant c.args.mutator (rw (← c.self.view_is) at c.requires.mutator) _ c.items_mut.ensures.value _ _
    (λ s. with_new s c.args.mutator c.args.register c.args.made) c.in_ok-name.ensures.state
    (born_keeps _ c.args.mutator c.args.register c.args.made c.self.invariant (rw (← c.self.view_is) at c.requires.mutator)
    (rw (← c.self.view_is) at c.requires.serial) (rw (← c.self.view_is) at c.requires.node))
