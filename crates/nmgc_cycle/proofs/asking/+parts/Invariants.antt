use Rattle.nmgc_cycle.proofs.{Vocabulary.◌+◌, Vocabulary.◌-◌, Vocabulary.◌*◌, Vocabulary.length}
use Rattle.nmgc_cycle.proofs.asking.+parts.Given as goal

abbrev pub decreases-ask_part : goal.decreases-ask_part
decreases-ask_part g l = 4 * length l.workers.now

abbrev pub decreases-ask_both_parts : goal.decreases-ask_both_parts
decreases-ask_both_parts g l = 4 * (length l.front.now + length l.back.now) - 1

abbrev pub decreases-ask_both_parts-left : goal.decreases-ask_both_parts-left
decreases-ask_both_parts-left g l = 4 * length l.front.now + 1

abbrev pub decreases-ask_both_parts-right : goal.decreases-ask_both_parts-right
decreases-ask_both_parts-right g l = 4 * length l.back.now + 1
