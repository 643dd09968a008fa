use Rattle.nmgc_core.proofs.Findings.{values_added}
use Rattle.nmgc_core.proofs.closing.Finding.mark_values.Goals as goal

pub loop-value-preserved : goal.loop-value-preserved
loop-value-preserved c =
    values_added c.args.snapshot.now c.args.self.now c.loop-value.self c.mark_value.new.self c.args.values.now c.loop-value.value-index _
    c.loop-value-test.true c.loop-value.invariant c.in_ok-mark_value.ensures
