use Rattle.nmgc_field_checker.proofs.{Vocabulary.IsHeap, Vocabulary.List, Vocabulary.Option, Vocabulary.[], Vocabulary.ap, Vocabulary.get_or, Vocabulary.subst, Vocabulary.sym, Vocabulary.take, Vocabulary.take_all, Vocabulary.take_more, Vocabulary.ℕ, Vocabulary.◌++◌, Vocabulary.◌∙◌, Vocabulary.◌∷◌, Vocabulary.◌≡◌}
use Rattle.nmgc_field_checker.proofs.heap.FieldHeap.copy.Goals as goal

pub loop-fields-preserved : goal.loop-fields-preserved
loop-fields-preserved c =
    let items = c.items-fields-items.result.now in
    let i = c.loop-fields.fields-index in
    let so_far : c.loop-fields.objects ≡ take i items = c.loop-fields.invariant in
    c.in_ok-push.ensures.ok ∙ ap (λ (l : List (List (Option ℕ))). l ++ c.in_ok-copy.field-0 ∷ []) so_far ∙
    ap (λ (x : List (Option ℕ)). take i items ++ x ∷ []) (c.in_ok-copy.ensures ∙ c.fields-item.is) ∙
    sym (take_more items i c.fields-item.result c.loop-fields-test.true)

pub invariant_of-result : goal.invariant_of-result
invariant_of-result c =
    let items = c.items-fields-items.result.now in
    let i = c.loop-fields.fields-index in
    let so_far : c.loop-fields.objects ≡ take i items = c.loop-fields.invariant in
    subst IsHeap (sym (so_far ∙ take_all i items c.loop-fields-test.false ∙ c.items-fields-items.ensures)) c.self.invariant
