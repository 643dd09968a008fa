use Rattle.nmgc_collector_laws.proofs.cycles.Owing.{machine_goes_on}
use Rattle.nmgc_collector_laws.proofs.marking.the_machine_follows_a_round.Goals as goal

pub returns : goal.returns
returns c = machine_goes_on
