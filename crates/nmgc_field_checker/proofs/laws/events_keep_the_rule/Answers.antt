use Rattle.nmgc_field_checker.specs.laws.Rule.{events_keep}
use Rattle.nmgc_field_checker.proofs.laws.events_keep_the_rule.Goals as goal

pub returns : goal.returns
returns c = events_keep
