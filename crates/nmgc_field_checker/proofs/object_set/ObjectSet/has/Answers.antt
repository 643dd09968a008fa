use Rattle.nmgc_field_checker.proofs.{Vocabulary.has_number, Vocabulary.same_test, GoneLaws.contains_has, GoneLaws.has_contains}
use Rattle.nmgc_field_checker.proofs.object_set.ObjectSet.has.Goals as goal

pub returns-clause-number : goal.returns-clause-number
returns-clause-number c = same_test c.is_flagged.result (has_number c.args.self.now.items c.args.object)
    (λ t. contains_has c.args.self.now.items c.args.object (c.is_flagged.ensures.0 t))
    (λ h. c.is_flagged.ensures.1 (has_contains c.args.self.now.items c.args.object h))
