use Rattle.nmgc_field_checker.proofs.{Vocabulary.Running, Vocabulary.ap, Vocabulary.serial_of, Vocabulary.subst, Vocabulary.sym, Vocabulary.◌∙◌, Vocabulary.◌≡◌, EndLaws.left_is}
use Rattle.nmgc_field_checker.proofs.cycle.FieldCycle.result.Goals as goal

pub new-requires : goal.new-requires
new-requires c = subst (λ (q : Running). c.args.kept.bound ≡ serial_of q.cycle.snapshot 0) (sym c.self.view_is) c.requires.bound ∙ sym c.count-old.ensures

pub returns : goal.returns
returns c = left_is c.args.self.now.cycle c.in_ok-heap.heap c.args.kept c.args.needed c.count-old.result c.in_ok-left.left (c.in_ok-heap.ensures ∙ ap (λ (q : Running). q.cycle.world) c.self.view_is) (c.count-old.ensures ∙ ap (λ (q : Running). serial_of q.cycle.snapshot 0) c.self.view_is) c.requires.kept c.requires.needed c.in_ok-left.ensures
