use Rattle.nmgc_run_laws.specs.laws.CycleCounts.{each_cycle_has_its_row}
use Rattle.nmgc_run_laws.proofs.laws.each_cycle_has_its_row.Goals as goal

pub returns : goal.returns
returns c = each_cycle_has_its_row
