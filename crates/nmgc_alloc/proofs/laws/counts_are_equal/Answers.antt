use Rattle.nmgc_alloc.specs.laws.Keeping.{counts_stand}
use Rattle.nmgc_alloc.proofs.laws.counts_are_equal.Goals as goal

pub returns : goal.returns
returns c = counts_stand
