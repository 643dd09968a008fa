use Rattle.nmgc_barrier_checker.proofs.Counting.{next_at}
use Rattle.nmgc_barrier_checker.proofs.due.is_other.Goals as goal

pub returns : goal.returns
returns c = next_at c.args.names.now c.args.place c.ne.result c.requires c.if-place-eq0.false c.ne.ensures
