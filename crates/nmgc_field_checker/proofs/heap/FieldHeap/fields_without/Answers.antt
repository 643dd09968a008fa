use Rattle.nmgc_field_checker.proofs.{Vocabulary.List, Vocabulary.None, Vocabulary.Option, Vocabulary.[], Vocabulary.ap, Vocabulary.get_or, Vocabulary.left_field, Vocabulary.map, Vocabulary.map_more, Vocabulary.sym, Vocabulary.take, Vocabulary.take_all, Vocabulary.ℕ, Vocabulary.◌++◌, Vocabulary.◌∙◌, Vocabulary.◌∷◌, Vocabulary.◌≡◌, GoneLaws.fields_same, GoneLaws.left_kept}
use Rattle.nmgc_field_checker.proofs.heap.FieldHeap.fields_without.Goals as goal

pub loop-field-preserved : goal.loop-field-preserved
loop-field-preserved c =
    let items = c.fields-field-items.result.now in
    let gone = c.args.gone.now.items in
    let i = c.loop-field.field-index in
    let so_far : c.loop-field.fields ≡ map (left_field gone) (take i items) = c.loop-field.invariant in
    c.in_ok-push.ensures.ok ∙ ap (λ (l : List (Option ℕ)). l ++ c.left_of.result ∷ []) so_far ∙
    ap (λ (x : Option ℕ). map (left_field gone) (take i items) ++ x ∷ []) c.left_of.ensures ∙
    sym (map_more (left_field gone) items i None c.loop-field-test.true)

pub returns : goal.returns
returns c = λ fields are.
    let items = c.fields-field-items.result.now in
    let gone = c.args.gone.now.items in
    let i = c.loop-field.field-index in
    let so_far : c.loop-field.fields ≡ map (left_field gone) (take i items) = c.loop-field.invariant in
    so_far ∙ ap (λ (l : List (Option ℕ)). map (left_field gone) l)
    (take_all i items c.loop-field-test.false ∙ fields_same c.args.self.now c.args.object fields items are c.fields-field-items.ensures.fields) ∙
    sym (left_kept gone c.args.object fields (sym c.has.ensures.number ∙ c.if-has.false))
