use Rattle.std.proofs.Common.{sym}
use Rattle.nmgc_graph.proofs.Weaks.{weak_placed}
use Rattle.nmgc_graph.proofs.world.World.mark_weak.Goals as goal

pub mark_values-requires : goal.mark_values-requires
mark_values-requires c =
    weak_placed (record {
      shared = c.self.inside.shared;
      mutators =
          c.self.inside.mutators;
    }) c.self.invariant c.args.search.now (rw (← c.self.view_is) at c.requires) c.args.weak c.in-Some.parts
    (sym (rw (← c.self.view_is) at c.in-Some.ensures.parts))
