use Rattle.nmgc_core.proofs.Reviving.{pass_none, pass_step}
use Rattle.nmgc_core.proofs.closing.Finding.mark_weaks.Goals as goal

pub loop-weak-init : goal.loop-weak-init
loop-weak-init c = pass_none c.args.core.now c.args.self.now c.requires.reviving

pub loop-weak-preserved : goal.loop-weak-preserved
loop-weak-preserved c =
    pass_step c.args.core.now c.args.self.now c.loop-weak.self c.mark_weak.new.self c.args.weaks.now c.loop-weak.weak-index _ c.loop-weak-test.true
    c.requires.waiting c.loop-weak.invariant (rw c.snapshot.ensures at c.in_ok-mark_weak.ensures)
