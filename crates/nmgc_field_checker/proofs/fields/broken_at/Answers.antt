use Rattle.nmgc_field_checker.proofs.{Vocabulary.None, Vocabulary.get_or, Vocabulary.refl, Vocabulary.slice_get-get_or, ChosenLaws.broken_is, ChosenLaws.broken_none}
use Rattle.nmgc_field_checker.proofs.fields.broken_at.Goals as goal

pub returns-in-None : goal.returns-in-None
returns-in-None c =
    broken_none c.args.snapshot.now c.args.heap.now c.args.object c.args.place c.args.at c.args.fields.now (get_or c.args.fields.now c.args.at None)
    (slice_get-get_or c.args.fields.now c.args.at None c.requires) None refl c.in-None.ensures

pub returns-in-Some : goal.returns-in-Some
returns-in-Some c =
    broken_is c.args.snapshot.now c.args.heap.now c.args.object c.args.place c.args.at c.args.fields.now (get_or c.args.fields.now c.args.at None)
    (slice_get-get_or c.args.fields.now c.args.at None c.requires) c.in-Some.target c.broken_target.result c.in-Some.ensures c.broken_target.ensures
