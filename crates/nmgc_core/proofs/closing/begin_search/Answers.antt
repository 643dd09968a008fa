use Rattle.nmgc_core.proofs.Reviving.{begins}
use Rattle.nmgc_core.proofs.closing.begin_search.Goals as goal

pub returns : goal.returns
returns c = begins c.args.core.now _ c.marked_names.ensures.there (rw (c.snapshot.ensures, c.marked_names.ensures.names) at c.in_ok-marks.ensures) c.new-work.ensures
