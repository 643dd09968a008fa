use Rattle.std.proofs.lemmas.List.{take_all}
use Rattle.nmgc_graph.proofs.Kepts.{lost_listed}
use Rattle.nmgc_graph.proofs.world.World.lost_weaks.Goals as goal

pub returns : goal.returns
returns c =
    rw (
      c.loop-weak.invariant,
      take_all c.loop-weak.weak-index c.args.weaks.now c.loop-weak-test.false,
    )
    (lost_listed c.args.self.now c.args.search.now.marks c.set.inside.rows c.args.finalised.now (rw (← c.set.view_is) at c.in_ok-set.ensures)
    c.args.weaks.now c.requires)
