use Rattle.nmgc_core.proofs.Rescuing.{finalisers_step}
use Rattle.nmgc_core.proofs.closing.Finding.mark_finalisers.Goals as goal

pub loop-weak-preserved : goal.loop-weak-preserved
loop-weak-preserved c =
    finalisers_step c.args.snapshot.now c.args.self.now c.loop-weak.self c.mark_finaliser.new.self c.args.weaks.now c.loop-weak.weak-index _
    c.loop-weak-test.true c.loop-weak.invariant c.in_ok-mark_finaliser.ensures
