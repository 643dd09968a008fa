use Rattle.nmgc_collector_laws.proofs.rounds.RootsLeft.{roots_left}
use Rattle.nmgc_collector_laws.proofs.idle.roots_are_represented.Goals as goal

pub returns : goal.returns
returns c = roots_left
