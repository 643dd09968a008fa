use Rattle.nmgc_field_checker.proofs.NumberLaws.{added_is}
use Rattle.nmgc_field_checker.proofs.numbers.Numbers.add.Goals as goal

pub returns : goal.returns
returns c = rw (← c.self.view_is) (added_is c.self.inside.set c.insert.new.self c.args.number c.in_ok-insert.ensures.updates)
