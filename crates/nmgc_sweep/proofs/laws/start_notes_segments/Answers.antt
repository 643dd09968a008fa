use Rattle.nmgc_sweep.proofs.Begins.{start_notes_segments}
use Rattle.nmgc_sweep.proofs.laws.start_notes_segments.Goals as goal

pub returns : goal.returns
returns c = start_notes_segments
