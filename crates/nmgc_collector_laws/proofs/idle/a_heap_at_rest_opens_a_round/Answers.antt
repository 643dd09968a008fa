use Rattle.nmgc_collector_laws.proofs.rounds.Opens.{rest_opens}
use Rattle.nmgc_collector_laws.proofs.idle.a_heap_at_rest_opens_a_round.Goals as goal

pub returns : goal.returns
returns c = rest_opens
