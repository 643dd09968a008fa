use Rattle.nmgc_graph.proofs.Filing.{IsPassing}
use Rattle.nmgc_graph.proofs.world.World.revive.Given as goal

abbrev pub invariant-loop-bound : goal.invariant-loop-bound
invariant-loop-bound l = IsPassing l.self l.weaks l.fn.name l.initial.search l.search l.bound

abbrev pub decreases-loop-bound : goal.decreases-loop-bound
decreases-loop-bound l = l.bound
