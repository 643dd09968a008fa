use Rattle.nmgc_journal.proofs.Vocabulary.{rules, length, YieldsList-from_slice, YieldsList-from_map, sum_by_from_yields_List, CycleRow}
use Rattle.nmgc_journal.proofs.summary.freed_count.Goals as goal

pub returns : goal.returns
returns c = sum_by_from_yields_List (λ (cycle : CycleRow).
    length cycle.freed) c.args.cycles.now c.map.result c.sum.result c.sum.ensures.ran (YieldsList-from_map _ (λ (cycle : CycleRow).
    length cycle.freed) (YieldsList-from_slice c.args.cycles.now cc) c.map.ensures.closure (λ x r q k. search rules))
