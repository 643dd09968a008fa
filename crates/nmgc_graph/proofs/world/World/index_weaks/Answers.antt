use Rattle.std.proofs.Common.{sym}
use Rattle.nmgc_graph.proofs.Filing.{none_filed, filed_place, filed_next}
use Rattle.nmgc_graph.proofs.world.World.index_weaks.Goals as goal

pub loop-weak-init : goal.loop-weak-init
loop-weak-init c =
    none_filed c.args.self.now c.args.weaks.now c.in_ok-waiting.waiting c.in_ok-waiting.ensures.before c.in_ok-waiting.ensures.counts
    c.in_ok-waiting.ensures.none

pub add-requires : goal.add-requires
add-requires c =
    filed_place c.args.self.now c.args.weaks.now c.loop-weak.weak-index c.loop-weak.waiting c.key.result c.loop-weak.invariant c.key.ensures.known

pub loop-weak-preserved : goal.loop-weak-preserved
loop-weak-preserved c =
    rw c.in_ok-add.ensures (filed_next c.args.self.now c.args.weaks.now c.loop-weak.weak-index c.loop-weak.waiting c.key.result
    c.loop-weak.invariant (sym c.key.ensures.key) c.key.ensures.known)
