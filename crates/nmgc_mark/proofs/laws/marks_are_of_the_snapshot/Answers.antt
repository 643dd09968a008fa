use Rattle.nmgc_mark.proofs.Reached.{marked_there}
use Rattle.nmgc_mark.proofs.laws.marks_are_of_the_snapshot.Goals as goal

pub returns : goal.returns
returns c = λ core f. marked_there core f
