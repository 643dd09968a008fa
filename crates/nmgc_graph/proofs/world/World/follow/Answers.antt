use Rattle.nmgc_graph.proofs.{Vocabulary.arith, Vocabulary.IsWorld, Follows.follow_none, Follows.fields_follow, Follows.fields_count}
use Rattle.nmgc_graph.proofs.world.World.follow.Goals as goal

pub loop-name-init : goal.loop-name-init
loop-name-init c = follow_none c.args.self.now c.args.search.now c.requires

pub loop-name-smaller : goal.loop-name-smaller
loop-name-smaller c =
    let w = c.args.self.now in
    let h : IsWorld w = rw (← c.self.view_is) c.self.invariant in
    let fewer = fields_count w c.loop-name.search c.pop.new.self c.in-Some.name c.in-Some.ensures.last c.loop-name.invariant.search h in
    rw c.in_ok-mark_fields.ensures (omega (arith, fewer))

pub loop-name-preserved : goal.loop-name-preserved
loop-name-preserved c =
    let w = c.args.self.now in
    let h : IsWorld w = rw (← c.self.view_is) c.self.invariant in
    rw c.in_ok-mark_fields.ensures (fields_follow w c.loop-name.search c.pop.new.self c.in-Some.name c.in-Some.ensures.last
    c.loop-name.invariant.search h c.args.search.now c.loop-name.invariant)
