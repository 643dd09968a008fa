use Rattle.nmgc_world_spec.specs.Known.{IsWorld}
use Rattle.nmgc_graph.proofs.Kepts.{kept_search, kept_found}
use Rattle.nmgc_graph.proofs.world.World.find_kept.Goals as goal

pub follow-requires : goal.follow-requires
follow-requires c =
    let w = c.args.self.now in
    let h : IsWorld w = rw (← c.self.view_is) c.self.invariant in
    rw (
      c.in_ok-mark_finalisers.ensures,
      c.items-3.ensures,
    ) (kept_search w h c.args.extra.now c.args.finalised.now c.in_ok-search.search c.in_ok-search.ensures c.in_ok-dead.dead
    c.in_ok-dead.ensures)

pub returns : goal.returns
returns c =
    let w = c.args.self.now in
    let h : IsWorld w = rw (← c.self.view_is) c.self.invariant in
    kept_found w h c.args.extra.now c.args.finalised.now c.in_ok-search.search c.in_ok-search.ensures c.in_ok-dead.dead c.in_ok-dead.ensures
    c.follow.new.search (rw (c.in_ok-mark_finalisers.ensures, c.items-3.ensures) at c.in_ok-follow.ensures.followed) c.in_ok-follow.ensures.empty
