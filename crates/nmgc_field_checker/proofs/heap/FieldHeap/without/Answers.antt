use Rattle.nmgc_field_checker.specs.laws.Heaps.{node_is}
use Rattle.nmgc_field_checker.proofs.{Vocabulary.AreFields, Vocabulary.IsHeap, Vocabulary.IsWithout, Vocabulary.List, Vocabulary.Option, Vocabulary.World, Vocabulary.[], Vocabulary.ap, Vocabulary.arith, Vocabulary.item, Vocabulary.length, Vocabulary.length-map, Vocabulary.node_with, Vocabulary.subst, Vocabulary.sym, Vocabulary.ℕ, Vocabulary.◌++◌, Vocabulary.◌+◌, Vocabulary.◌<◌, Vocabulary.◌∙◌, Vocabulary.◌∷◌, Vocabulary.◌≡◌, GoneLaws.AreLeft, GoneLaws.left_heap, GoneLaws.left_more, GoneLaws.left_none, GoneLaws.left_without}
use Rattle.nmgc_field_checker.proofs.heap.FieldHeap.without.Goals as goal

pub loop-object-init : goal.loop-object-init
loop-object-init c =
    subst (λ (l : List (List (Option ℕ))). AreLeft c.args.gone.now.items c.self.inside.objects l 0) (sym c.new-objects.ensures)
    (left_none c.args.gone.now.items c.self.inside.objects)

pub loop-object-preserved : goal.loop-object-preserved
loop-object-preserved c =
    let objects = c.self.inside.objects in
    let gone = c.args.gone.now.items in
    let i = c.loop-object.object in
    let count = rw (← c.self.view_is) at c.count-object-end.ensures in
    let all : c.count-object-end.result ≡ length objects = count ∙ length-map objects node_with in
    let within : i < length objects = subst (λ (n : ℕ). i < n) all c.loop-object-test.true in
    let x = item objects i within in
    let are : AreFields c.args.self.now i x.0 = subst (λ (w : World). AreFields w i x.0) c.self.view_is (node_is objects i x.0 x.1) in
    subst (λ (l : List (List (Option ℕ))). AreLeft gone objects l (i + 1)) (sym c.in_ok-push.ensures.ok)
    (left_more gone objects c.loop-object.objects i x.0 c.in_ok-fields_without.field-0 c.self.invariant x.1 (c.in_ok-fields_without.ensures x.0 are)
    c.loop-object.invariant)

pub invariant_of-result : goal.invariant_of-result
invariant_of-result c =
    let objects = c.self.inside.objects in
    let count = rw (← c.self.view_is) at c.count-object-end.ensures in
    let all : c.count-object-end.result ≡ length objects = count ∙ length-map objects node_with in
    left_heap c.args.gone.now.items objects c.loop-object.objects c.loop-object.object c.self.invariant
    (let e : length objects ≡ c.loop-object.object = omega arith in e) c.loop-object.invariant

pub returns : goal.returns
returns c =
    let objects = c.self.inside.objects in
    let count = rw (← c.self.view_is) at c.count-object-end.ensures in
    let all : c.count-object-end.result ≡ length objects = count ∙ length-map objects node_with in
    rw (← c.self.view_is) (left_without c.args.gone.now.items objects c.loop-object.objects c.loop-object.object c.self.invariant
    (let e : length objects ≡ c.loop-object.object = omega arith in e) c.loop-object.invariant)
