use Rattle.nmgc_graph.proofs.Kepts.{all_weaks_listed}
use Rattle.nmgc_graph.proofs.world.World.alive_weaks.Goals as goal

pub returns : goal.returns
returns c = all_weaks_listed c.args.self.now c.mutators-maker-end.ensures.closed c.loop-maker.maker c.loop-maker.weaks
    (rw c.mutators-maker-end.ensures.count at c.loop-maker-test.false) c.loop-maker.invariant
