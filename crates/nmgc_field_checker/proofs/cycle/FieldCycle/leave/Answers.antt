use Rattle.nmgc_field_checker.proofs.{CycleLaws.gone_is}
use Rattle.nmgc_field_checker.proofs.cycle.FieldCycle.leave.Goals as goal

pub returns : goal.returns
returns c = rw (← c.self.view_is) (gone_is c.self.inside.snapshot c.self.inside.roots c.self.inside.remembered c.self.inside.accounts c.self.inside.opened c.self.inside.stores c.self.invariant c.self.inside.heap c.self.inside.unscanned c.args.number c.remove.new.self c.remove.ensures)
