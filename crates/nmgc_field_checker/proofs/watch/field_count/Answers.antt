use Rattle.nmgc_field_checker.proofs.{MissingLaws.count_is}
use Rattle.nmgc_field_checker.proofs.watch.field_count.Goals as goal

pub returns : goal.returns
returns c = count_is c.args.heap.now c.args.object c.fields.result.now c.fields.ensures.fields c.requires
