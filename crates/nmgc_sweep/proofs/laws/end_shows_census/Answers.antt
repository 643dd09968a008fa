use Rattle.nmgc_sweep.proofs.Begins.{end_shows_census}
use Rattle.nmgc_sweep.proofs.laws.end_shows_census.Goals as goal

pub returns : goal.returns
returns c = end_shows_census
