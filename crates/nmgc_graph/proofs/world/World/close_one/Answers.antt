use Rattle.nmgc_graph.proofs.Closings.{dead_within, one_keeps, one_closes}
use Rattle.nmgc_graph.proofs.world.World.close_one.Goals as goal

pub kill_and_queue-requires : goal.kill_and_queue-requires
kill_and_queue-requires c =
    dead_within (record {
      shared = c.self.inside.shared;
      mutators =
          c.self.inside.mutators;
    }) c.self.invariant c.args.weak (rw (← c.self.view_is) at c.requires) c.items_mut.result.now
    c.items_mut.ensures.value c.index-items_mut-weak.result c.index-items_mut-weak.result

pub invariant_of-self : goal.invariant_of-self
invariant_of-self c =
    one_keeps (record {
      shared = c.self.inside.shared;
      mutators =
          c.self.inside.mutators;
    }) c.self.invariant c.args.weak (rw (← c.self.view_is) at c.requires) c.items_mut.result.now
    c.items_mut.ensures.value _ _ c.kill_and_queue.result c.kill_and_queue.ensures.ok c.kill_and_queue.ensures.err

pub returns-clause-ok : goal.returns-clause-ok
returns-clause-ok c =
    rw (← c.self.view_is) (one_closes (record {
      shared = c.self.inside.shared;
      mutators = c.self.inside.mutators;
    }) c.self.invariant c.args.weak (rw (← c.self.view_is) at c.requires) c.items_mut.result.now
    c.items_mut.ensures.value _ _ c.kill_and_queue.result c.kill_and_queue.ensures.ok c.kill_and_queue.ensures.err)
