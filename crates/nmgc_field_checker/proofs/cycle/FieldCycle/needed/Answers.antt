use Rattle.nmgc_field_checker.proofs.{Vocabulary.Joins, Vocabulary.List, Vocabulary.no_objects, Vocabulary.serial_of, Vocabulary.subst, Vocabulary.ℕ, ReachLaws.needed_is}
use Rattle.nmgc_field_checker.proofs.cycle.FieldCycle.needed.Goals as goal

pub returns-clause-needed : goal.returns-clause-needed
returns-clause-needed c = rw (← c.self.view_is) (needed_is c.self.inside.heap c.self.inside.snapshot c.self.inside.unscanned c.self.inside.roots c.self.inside.remembered c.self.inside.accounts c.self.inside.opened c.self.inside.stores c.in_ok-needed.needed c.extend.new.self c.follow.new.found (subst (λ (l : List ℕ). Joins (no_objects (serial_of c.self.inside.snapshot 0)) l c.in_ok-needed.needed) c.items.ensures.items (subst (λ (n : ℕ). Joins (no_objects n) c.items.result.now c.in_ok-needed.needed) c.count.ensures c.in_ok-needed.ensures)) (subst (λ (l : List ℕ). Joins c.in_ok-needed.needed l c.extend.new.self) c.items-2.ensures.items c.in_ok-extend.ensures.joins) c.in_ok-follow.ensures)
