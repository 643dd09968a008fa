use Rattle.nmgc_weak.proofs.Lists.{leaving_lists}
use Rattle.nmgc_weak.proofs.laws.weaks_without_value_leave_the_list.Goals as goal

pub returns : goal.returns
returns c = leaving_lists
