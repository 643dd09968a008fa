use Rattle.nmgc_world_spec.specs.World.{World}
use Rattle.nmgc_graph.proofs.Lives.{extra_placed}
use Rattle.nmgc_graph.proofs.world.World.mark_starts.Goals as goal

pub mark_names-requires : goal.mark_names-requires
mark_names-requires c =
    let w : World = record { shared = c.self.inside.shared; mutators = c.self.inside.mutators } in
    rw (
      c.in_ok-mark_states.ensures,
      c.in_ok-mark.ensures,
      c.items.ensures,
    ) (extra_placed w c.self.invariant c.args.extra.now (rw (← c.self.view_is) at c.requires.extra) c.args.search.now
    (rw (← c.self.view_is) at c.requires.places))
