use Rattle.nmgc_field_checker.proofs.{Vocabulary.None, Vocabulary.get_or, Vocabulary.refl, Vocabulary.slice_get-get_or, ChosenLaws.stored_is, ChosenLaws.stored_none}
use Rattle.nmgc_field_checker.proofs.fields.stored_at.Goals as goal

pub returns-in-None : goal.returns-in-None
returns-in-None c =
    stored_none c.args.snapshot.now c.args.heap.now c.args.object c.args.place c.args.at c.args.fields.now (get_or c.args.fields.now c.args.at None)
    (slice_get-get_or c.args.fields.now c.args.at None c.requires) c.in-None.is None refl

pub returns-in-Some : goal.returns-in-Some
returns-in-Some c =
    stored_is c.args.snapshot.now c.args.heap.now c.args.object c.args.place c.args.at c.args.fields.now (get_or c.args.fields.now c.args.at None)
    (slice_get-get_or c.args.fields.now c.args.at None c.requires) c.in-Some.target c.stored_target.result c.in-Some.is c.stored_target.ensures
