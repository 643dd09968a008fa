use Rattle.nmgc_snapshot_laws.specs.laws.Runs.{closing_is_exact}
use Rattle.nmgc_snapshot_laws.proofs.laws.a_closing_is_exact.Goals as goal

pub returns : goal.returns
returns c = closing_is_exact
