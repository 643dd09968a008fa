use Rattle.nmgc_alloc.proofs.Shifts.{shifted, masked}
use Rattle.nmgc_alloc.proofs.segments.split.Goals as goal

pub returns-clause-number : goal.returns-clause-number
returns-clause-number c = shifted c.args.distance c.args.words c.requires

pub returns-clause-rest : goal.returns-clause-rest
returns-clause-rest c = masked c.args.distance c.args.words c.requires
