use Rattle.nmgc_field_checker.proofs.{Vocabulary.All-contains, Vocabulary.Contains, Vocabulary.Joins, Vocabulary.List, Vocabulary.NeedsName, Vocabulary.Running, Vocabulary.named, Vocabulary.no_objects, Vocabulary.serial_of, Vocabulary.subst, Vocabulary.sym, Vocabulary.ℕ, Vocabulary.◌<◌, Vocabulary.◌≡◌, Vocabulary.◌↔◌, ReachLaws.kept_is}
use Rattle.nmgc_field_checker.proofs.cycle.FieldCycle.kept.Goals as goal

pub returns-clause-kept : goal.returns-clause-kept
returns-clause-kept c = rw (← c.self.view_is) (kept_is c.self.inside.heap c.self.inside.snapshot c.self.inside.unscanned c.self.inside.roots c.self.inside.remembered c.self.inside.accounts c.self.inside.opened c.self.inside.stores c.args.needed.now c.in_ok-kept.kept c.extend.new.self c.follow.new.found (subst (λ (q : Running). (object : ℕ) → Contains c.args.needed.now.items object ↔ NeedsName q.cycle (named object)) (sym c.self.view_is) c.requires.needed) (λ n has. subst (λ (b : ℕ). n < b) (subst (λ (q : Running). c.args.needed.now.bound ≡ serial_of q.cycle.snapshot 0) (sym c.self.view_is) c.requires.bound) (All-contains (λ (x : ℕ). x < c.args.needed.now.bound) c.items.result.now n c.items.ensures.below (subst (λ (l : List ℕ). Contains l n) (sym c.items.ensures.items) has))) (subst (λ (l : List ℕ). Joins (no_objects (serial_of c.self.inside.snapshot 0)) l c.in_ok-kept.kept) c.items.ensures.items (subst (λ (n : ℕ). Joins (no_objects n) c.items.result.now c.in_ok-kept.kept) c.count.ensures c.in_ok-kept.ensures)) (subst (λ (l : List ℕ). Joins c.in_ok-kept.kept l c.extend.new.self) c.items-2.ensures.items c.in_ok-extend.ensures.joins) c.in_ok-follow.ensures)
