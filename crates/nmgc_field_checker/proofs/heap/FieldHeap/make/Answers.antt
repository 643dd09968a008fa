use Rattle.nmgc_field_checker.specs.laws.Heaps.{heap_more, made_is}
use Rattle.nmgc_field_checker.proofs.{Vocabulary.AreKnown, Vocabulary.IsHeap, Vocabulary.IsMade, Vocabulary.List, Vocabulary.Option, Vocabulary.[], Vocabulary.ap, Vocabulary.filled, Vocabulary.length, Vocabulary.length-map, Vocabulary.named, Vocabulary.node_with, Vocabulary.serial_of, Vocabulary.subst, Vocabulary.sym, Vocabulary.values_in, Vocabulary.world_of, Vocabulary.ℕ, Vocabulary.◌++◌, Vocabulary.◌-◌, Vocabulary.◌<◌, Vocabulary.◌^◌, Vocabulary.◌∙◌, Vocabulary.◌∷◌, Vocabulary.IsStore, HeapChanges.making_of}
use Rattle.nmgc_field_checker.proofs.heap.FieldHeap.make.Goals as goal

pub invariant_of-self : goal.invariant_of-self
invariant_of-self c = subst IsHeap (sym c.in_err-push.ensures.err) c.self.invariant

pub invariant_of-self-2 : goal.invariant_of-self-2
invariant_of-self-2 c =
    let objects = c.self.inside.objects in
    let known = rw (← c.self.view_is) at c.requires.known in
    let few = rw (← c.self.view_is) at c.requires.room in
    let room : length objects < 2 ^ 32 - 1 = subst (λ (n : ℕ). n < 2 ^ 32 - 1) (length-map objects node_with) few in
    subst IsHeap (sym (c.in_ok-push.ensures.ok ∙ ap (λ (x : List (Option ℕ)). objects ++ x ∷ []) c.in_ok-object.ensures))
    (heap_more objects c.args.count c.args.fields.now c.self.invariant room known)

pub returns-clause-made : goal.returns-clause-made
returns-clause-made c =
    let objects = c.self.inside.objects in
    let known = rw (← c.self.view_is) at c.requires.known in
    rw (← c.self.view_is) (subst (λ (l : List (List (Option ℕ))).
    IsMade (world_of objects) (named (serial_of (world_of objects) 0)) (filled c.args.count c.args.fields.now) (world_of l))
    (sym (c.in_ok-push.ensures.ok ∙ ap (λ (x : List (Option ℕ)). objects ++ x ∷ []) c.in_ok-object.ensures))
    (made_is objects c.args.count c.args.fields.now known))

pub returns-clause-stores : goal.returns-clause-stores
returns-clause-stores c =
    let objects = c.self.inside.objects in
    rw (← c.self.view_is) (subst (λ (l : List (List (Option ℕ))).
    IsStore (world_of objects) (serial_of (world_of objects) 0) 0 c.args.fields.now (world_of l))
    (sym (c.in_ok-push.ensures.ok ∙ ap (λ (x : List (Option ℕ)). objects ++ x ∷ []) c.in_ok-object.ensures))
    (making_of objects c.args.count (serial_of (world_of objects) 0) c.args.fields.now (length-map objects node_with)))
