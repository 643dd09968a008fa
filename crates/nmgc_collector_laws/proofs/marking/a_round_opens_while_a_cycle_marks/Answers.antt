use Rattle.nmgc_collector_laws.proofs.cycles.Opens.{rest_opens}
use Rattle.nmgc_collector_laws.proofs.marking.a_round_opens_while_a_cycle_marks.Goals as goal

pub returns : goal.returns
returns c = rest_opens
