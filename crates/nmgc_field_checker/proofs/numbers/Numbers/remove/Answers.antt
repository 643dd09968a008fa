use Rattle.nmgc_field_checker.proofs.NumberLaws.{removed_is}
use Rattle.nmgc_field_checker.proofs.numbers.Numbers.remove.Goals as goal

pub returns : goal.returns
returns c = rw (← c.self.view_is) (removed_is c.self.inside.set c.remove.new.self c.args.number c.remove.ensures.updates)
