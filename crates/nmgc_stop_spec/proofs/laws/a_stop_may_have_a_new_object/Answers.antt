use Rattle.nmgc_stop_spec.proofs.YoungHeap.{one_young}
use Rattle.nmgc_stop_spec.proofs.laws.a_stop_may_have_a_new_object.Goals as goal

pub returns : goal.returns
returns c = one_young
