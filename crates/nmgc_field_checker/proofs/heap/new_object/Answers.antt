use Rattle.nmgc_field_checker.specs.laws.Heaps.{new_is}
use Rattle.nmgc_field_checker.proofs.heap.new_object.Goals as goal

pub returns : goal.returns
returns c =
    new_is c.args.count c.max-size.result c.args.fields.now c.in_ok-object.object c.items_mut.result.now c.put.new.values c.in_ok-object.ensures
    c.items_mut.ensures.value c.max-size.ensures c.put.ensures
