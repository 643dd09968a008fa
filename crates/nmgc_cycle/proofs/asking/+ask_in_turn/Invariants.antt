use Rattle.nmgc_cycle.proofs.{Vocabulary.length}
use Rattle.nmgc_cycle.proofs.asking.+ask_in_turn.Given as goal

abbrev pub decreases-ask_in_turn : goal.decreases-ask_in_turn
decreases-ask_in_turn g l = length l.workers.now
