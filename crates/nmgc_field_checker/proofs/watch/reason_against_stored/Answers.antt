use Rattle.nmgc_field_checker.proofs.{Vocabulary.never, Vocabulary.refl, MissingLaws.missing_object, MissingLaws.missing_written}
use Rattle.nmgc_field_checker.proofs.watch.reason_against_stored.Goals as goal

pub returns-then-not-has : goal.returns-then-not-has
returns-then-not-has c = missing_object c.args.heap.now c.args.object c.args.place c.args.fields.now (λ h. never (c.if-not-has.ensures.1 h))

pub returns-in-Some : goal.returns-in-Some
returns-in-Some c = missing_written c.args.heap.now c.args.object c.args.place c.args.fields.now c.in-Some.why (c.if-not-has.ensures.0 refl) c.in-Some.ensures
