use Rattle.nmgc_field_checker.specs.laws.Rule.{closed_is_exact}
use Rattle.nmgc_field_checker.proofs.laws.a_closed_cycle_marked_what_it_had_to.Goals as goal

pub returns : goal.returns
returns c = closed_is_exact
