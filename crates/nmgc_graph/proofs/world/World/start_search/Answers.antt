use Rattle.nmgc_world_spec.specs.Known.{IsWorld}
use Rattle.nmgc_graph.proofs.Lives.{live_begun}
use Rattle.nmgc_graph.proofs.world.World.start_search.Goals as goal

pub returns : goal.returns
returns c =
    let h : IsWorld c.args.self.now = rw (← c.self.view_is) c.self.invariant in
    rw (
      c.in_ok-mark_starts.ensures,
      c.new.ensures,
    ) (live_begun c.args.self.now h c.args.extra.now c.requires c.in_ok-empty_set.field-0 c.in_ok-empty_set.ensures.places
    c.in_ok-empty_set.ensures.none)
