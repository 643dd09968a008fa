use Rattle.nmgc_updrem.specs.laws.Lines.{line_goes_on}
use Rattle.nmgc_updrem.proofs.laws.a_line_stays_a_line.Goals as goal

pub returns : goal.returns
returns c = line_goes_on
