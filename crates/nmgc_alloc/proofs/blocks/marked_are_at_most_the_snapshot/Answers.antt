use Rattle.nmgc_alloc.specs.laws.Blocks.{marked_few, marked_fewer}
use Rattle.nmgc_alloc.proofs.blocks.marked_are_at_most_the_snapshot.Goals as goal

pub returns-clause-most : goal.returns-clause-most
returns-clause-most c = marked_few

pub returns-clause-less : goal.returns-clause-less
returns-clause-less c = marked_fewer
