use Rattle.nmgc_image.proofs.{Vocabulary.List, Vocabulary.sym, Vocabulary.map, Vocabulary.ℕ, Vocabulary.subst, Vocabulary.All, Vocabulary.All-permutation, Vocabulary.IsPermutation, Vocabulary.IsNonDecreasingBy, Vocabulary.on_ok_weaker, Vocabulary.Keyed, Vocabulary.IsReadableObject, Vocabulary.keyed_at, Written.lists_same}
use Rattle.nmgc_image.proofs.heap_image.push_objects_at.Goals as goal

pub push_objects-requires-clause-sorted : goal.push_objects-requires-clause-sorted
push_objects-requires-clause-sorted c = subst (λ (l : List ℕ). IsNonDecreasingBy (λ (o : Keyed). o.key) (map (keyed_at c.args.words.now) l))
    (sym c.deref.ensures.value) c.in_ok-put_in_order.ensures.sorted

pub push_objects-requires-clause-readable : goal.push_objects-requires-clause-readable
push_objects-requires-clause-readable c = subst (All (IsReadableObject c.args.words.now)) (sym c.deref.ensures.value)
    (All-permutation (IsReadableObject c.args.words.now) c.args.places.items c.put_in_order.new.places.items c.in_ok-put_in_order.ensures.same c.requires)

pub returns : goal.returns
returns c =
    let moved = subst (λ (l : List ℕ). IsPermutation c.args.places.items l) (sym c.deref.ensures.value) c.in_ok-put_in_order.ensures.same in
    on_ok_weaker c.push_objects.result (λ written. (
      written.0,
      lists_same c.args.words.now c.args.places.items c.deref.result.now written.0 moved written.1,
      written.2,
    )) c.push_objects.ensures
