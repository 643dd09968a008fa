use Rattle.nmgc_collector_laws.proofs.rounds.Born.{order, used}
use Rattle.nmgc_collector_laws.proofs.idle.new_objects_are_in_order.Goals as goal

pub returns : goal.returns
returns c = λ o before words v mutators done can h worked. (order o before words v mutators done can h worked, used o before words v mutators done can h worked)
