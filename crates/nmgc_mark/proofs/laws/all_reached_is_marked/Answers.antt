use Rattle.nmgc_mark.proofs.Reached.{reached_marked}
use Rattle.nmgc_mark.proofs.laws.all_reached_is_marked.Goals as goal

pub returns : goal.returns
returns c = λ core f queue owed pushed name r. reached_marked core f queue owed pushed name r
