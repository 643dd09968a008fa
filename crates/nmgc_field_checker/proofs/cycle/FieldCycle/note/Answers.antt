use Rattle.nmgc_field_checker.proofs.{Vocabulary.AreOld, Vocabulary.Running, Vocabulary.length, Vocabulary.subst, Vocabulary.sym, Vocabulary.◌∙◌, CycleLaws.all_old, NoteLaws.noted_is}
use Rattle.nmgc_field_checker.proofs.cycle.FieldCycle.note.Goals as goal

pub owe_all-requires-clause-below : goal.owe_all-requires-clause-below
owe_all-requires-clause-below c = all_old c.self.inside.snapshot (length c.self.inside.accounts.latest) c.args.broken.now c.self.invariant.accounts_are.count (subst (λ (q : Running). AreOld q.cycle c.args.broken.now) (sym c.self.view_is) c.requires.broken)

pub owe_all-requires-2-clause-below : goal.owe_all-requires-2-clause-below
owe_all-requires-2-clause-below c = all_old c.self.inside.snapshot (length c.owe_all.new.self.latest) c.args.handed.now (c.owe_all.ensures.are.count ∙ c.self.invariant.accounts_are.count) (subst (λ (q : Running). AreOld q.cycle c.args.handed.now) (sym c.self.view_is) c.requires.handed)

pub add_all-requires : goal.add_all-requires
add_all-requires c = all_old c.self.inside.snapshot c.self.inside.stores.bound c.args.stored.now c.self.invariant.stores_bound (subst (λ (q : Running). AreOld q.cycle c.args.stored.now) (sym c.self.view_is) c.requires.stored)

pub returns-clause-noted : goal.returns-clause-noted
returns-clause-noted c = rw (← c.self.view_is) (noted_is c.self.inside.heap c.self.inside.snapshot c.self.inside.unscanned c.self.inside.roots c.self.inside.remembered c.self.inside.accounts c.owe_all.new.self c.owe_all-2.new.self c.self.inside.opened c.extend.new.self c.self.inside.stores c.add_all.new.self c.self.invariant c.args.line c.args.number c.args.broken.now c.args.handed.now c.args.stored.now c.in_ok-owe_all.ensures.owed c.in_ok-owe_all-2.ensures.owed c.in_ok-extend.ensures.joins c.in_ok-add_all.ensures.adds (subst (λ (q : Running). AreOld q.cycle c.args.handed.now) (sym c.self.view_is) c.requires.handed))
