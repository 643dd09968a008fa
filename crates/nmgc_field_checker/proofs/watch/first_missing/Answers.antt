use Rattle.nmgc_field_checker.proofs.{Vocabulary.None, MissingLaws.known_all, MissingLaws.known_more, MissingLaws.known_none, MissingLaws.missing_is}
use Rattle.nmgc_field_checker.proofs.watch.first_missing.Goals as goal

pub loop-field-init : goal.loop-field-init
loop-field-init c = known_none c.args.heap.now c.args.fields.now

pub loop-field-preserved : goal.loop-field-preserved
loop-field-preserved c = known_more c.args.heap.now c.args.fields.now c.loop-field.field-index None c.loop-field-test.true c.loop-field.invariant c.in_default.ensures

pub returns-in-Some : goal.returns-in-Some
returns-in-Some c = missing_is c.args.heap.now c.args.fields.now c.loop-field.field-index None c.loop-field-test.true c.loop-field.invariant c.in-Some.target c.in-Some.ensures.0 c.in-Some.ensures.1

pub returns : goal.returns
returns c = known_all c.args.heap.now c.args.fields.now c.loop-field.field-index c.loop-field-test.false c.loop-field.invariant
