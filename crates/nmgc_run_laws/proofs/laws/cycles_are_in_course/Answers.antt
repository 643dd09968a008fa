use Rattle.nmgc_run_laws.specs.laws.Course.{runs_are, rounds_stay, promotions_stay, cycles_begin}
use Rattle.nmgc_run_laws.proofs.laws.cycles_are_in_course.Goals as goal

pub returns-clause-runs : goal.returns-clause-runs
returns-clause-runs c = runs_are

pub returns-clause-rounds : goal.returns-clause-rounds
returns-clause-rounds c = rounds_stay

pub returns-clause-promotions : goal.returns-clause-promotions
returns-clause-promotions c = promotions_stay

pub returns-clause-begins : goal.returns-clause-begins
returns-clause-begins c = cycles_begin
