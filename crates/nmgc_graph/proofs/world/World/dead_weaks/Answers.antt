use Rattle.std.proofs.lemmas.Result.{IfOk-weaker}
use Rattle.nmgc_graph.proofs.Kepts.{dead_listed}
use Rattle.nmgc_graph.proofs.world.World.dead_weaks.Goals as goal

pub returns : goal.returns
returns c = IfOk-weaker c.lost_weaks.result _ _ (λ names l.
    dead_listed c.args.self.now c.args.extra.now c.args.finalised.now c.in_ok-search.search c.in_ok-search.ensures names l) c.lost_weaks.ensures
