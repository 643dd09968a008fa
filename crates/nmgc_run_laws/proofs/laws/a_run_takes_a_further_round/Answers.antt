use Rattle.nmgc_run_laws.specs.laws.Turns.{a_run_takes_a_further_round, one_more_turn, last_is_of_turn}
use Rattle.nmgc_run_laws.proofs.laws.a_run_takes_a_further_round.Goals as goal

pub returns-clause-run : goal.returns-clause-run
returns-clause-run c = a_run_takes_a_further_round

pub returns-clause-agrees : goal.returns-clause-agrees
returns-clause-agrees c = one_more_turn

pub returns-clause-last : goal.returns-clause-last
returns-clause-last c = last_is_of_turn
