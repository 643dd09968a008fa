use Rattle.nmgc_core.proofs.OpenLaws.{unmarked_core}
use Rattle.nmgc_core.proofs.core_machine.Core.make_unmarked.Goals as goal

pub invariant_of-result : goal.invariant_of-result
invariant_of-result c =
    unmarked_core c.args.world c.in_ok-marks.marks c.in_ok-snapshot.snapshot c.in_ok-marked.marked c.new.result c.in_ok-owed.owed
    c.in_ok-pushed.pushed c.new-2.result c.new-3.result
    c.mutators.ensures.closed c.in_ok-marks.ensures.places c.in_ok-marks.ensures.marks c.in_ok-snapshot.ensures c.in_ok-marked.ensures
    c.mutators.result c.mutators-2.result c.mutators.ensures.count c.mutators-2.ensures.count c.in_ok-owed.ensures c.in_ok-pushed.ensures
