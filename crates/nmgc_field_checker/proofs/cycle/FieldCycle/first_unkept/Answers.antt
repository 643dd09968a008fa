use Rattle.nmgc_field_checker.proofs.{Vocabulary.Contains, Vocabulary.KeepsName, Vocabulary.Running, Vocabulary.named, Vocabulary.subst, Vocabulary.sym, Vocabulary.ℕ, Vocabulary.◌↔◌, EndLaws.lost_is}
use Rattle.nmgc_field_checker.proofs.cycle.FieldCycle.first_unkept.Goals as goal

pub returns : goal.returns
returns c = rw (← c.self.view_is) (lost_is c.self.inside.heap c.self.inside.snapshot c.self.inside.unscanned c.self.inside.roots c.self.inside.remembered c.self.inside.accounts c.self.inside.opened c.self.inside.stores c.args.kept.now (subst (λ (q : Running). (object : ℕ) → Contains c.args.kept.now.items object ↔ KeepsName q.cycle (named object)) (sym c.self.view_is) c.requires) c.first_outside.result c.first_outside.ensures)
