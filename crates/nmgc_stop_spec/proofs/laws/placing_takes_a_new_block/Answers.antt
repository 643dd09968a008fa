use Rattle.nmgc_stop_spec.specs.laws.Placings.{occupies, stays_occupied, only_occupied, lies_apart, keeps_marks}
use Rattle.nmgc_stop_spec.proofs.laws.placing_takes_a_new_block.Goals as goal

pub returns-clause-occupies : goal.returns-clause-occupies
returns-clause-occupies c = occupies

pub returns-clause-stays : goal.returns-clause-stays
returns-clause-stays c = λ s new m k at sound after a p size o. (stays_occupied s new m k at sound after a p size o).0

pub returns-clause-only : goal.returns-clause-only
returns-clause-only c = only_occupied

pub returns-clause-apart : goal.returns-clause-apart
returns-clause-apart c = lies_apart

pub returns-clause-marks : goal.returns-clause-marks
returns-clause-marks c = keeps_marks
