use Rattle.nmgc_field_checker.proofs.{Vocabulary.values_in, LentStores.heap_written, LentStores.is_store, LentStores.is_written}
use Rattle.nmgc_field_checker.proofs.heap.FieldHeap.write.Goals as goal

pub invariant_of-self : goal.invariant_of-self
invariant_of-self c =
    let fits = rw (← c.self.view_is) at c.requires.fits in
    let known = rw (← c.self.view_is) at c.requires.known in
    heap_written c.self.inside.objects c.items_mut.result.now c.args.object c.args.place fits.0 c.index-items_mut-object.result c.items_mut-2.result.now
    c.args.fields.now c.put.new.values c.self.invariant c.items_mut.ensures.value c.items_mut-2.ensures.value c.put.ensures known fits.1 fits.2

pub returns-clause-written : goal.returns-clause-written
returns-clause-written c =
    let fits = rw (← c.self.view_is) at c.requires.fits in
    let known = rw (← c.self.view_is) at c.requires.known in
    rw (← c.self.view_is) (is_written c.self.inside.objects c.items_mut.result.now c.args.object c.args.place fits.0 c.index-items_mut-object.result
    c.items_mut-2.result.now c.args.fields.now c.put.new.values c.self.invariant c.items_mut.ensures.value c.items_mut-2.ensures.value c.put.ensures
    known fits.1 fits.2)

pub returns-clause-stores : goal.returns-clause-stores
returns-clause-stores c =
    let fits = rw (← c.self.view_is) at c.requires.fits in
    let known = rw (← c.self.view_is) at c.requires.known in
    rw (← c.self.view_is) (is_store c.self.inside.objects c.items_mut.result.now c.args.object c.args.place fits.0 c.index-items_mut-object.result
    c.items_mut-2.result.now c.args.fields.now c.put.new.values c.self.invariant c.items_mut.ensures.value c.items_mut-2.ensures.value c.put.ensures
    known fits.1 fits.2)
