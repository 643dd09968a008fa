use Rattle.nmgc_field_checker.proofs.{Vocabulary.Has, Vocabulary.Running, Vocabulary.refl, Vocabulary.subst, Vocabulary.sym, OpenLaws.opened_is}
use Rattle.nmgc_field_checker.proofs.cycle.FieldCycle.open.Goals as goal

pub returns-clause-opened : goal.returns-clause-opened
returns-clause-opened c = rw (← c.self.view_is) (opened_is c.self.inside.heap c.self.inside.snapshot c.self.inside.unscanned c.self.inside.roots c.self.inside.remembered c.self.inside.accounts c.owe_all.new.self c.self.inside.opened c.add.new.self c.self.inside.stores c.self.invariant c.args.line c.args.number c.args.object (subst (λ (q : Running). Has q.cycle.world c.args.object) (sym c.self.view_is) c.requires) (c.if-not-has.ensures.0 refl) c.in_ok-owe_all.ensures.owed c.in_ok-add.ensures.joins)
