use Rattle.nmgc_image.proofs.Vocabulary.{◌≡◌, ◌∙◌, ℕ, List, ap, sym, subst, map, All, IfOk-weaker, Header, IsReadable, value_words, value_words_at, fields_at, begins_unset, made_of, value_in}
use Rattle.nmgc_image.proofs.objects.node_at.Goals as goal

pub values_of-requires : goal.values_of-requires
values_of-requires c =
    let object = c.requires.object in
    let fields : c.as_slice-fields.result.now ≡ fields_at c.args.words.now c.args.at object.header = c.as_slice-fields.ensures.value ∙
    c.in_ok-header.ensures.fields object in
    let same : c.value_words.result.now ≡ value_words_at c.args.words.now c.args.at object.header = c.value_words.ensures ∙ ap (value_words c.in_ok-header.header.kind) fields ∙
    ap (λ (h : Header). value_words h.kind (fields_at c.args.words.now c.args.at object.header)) (c.in_ok-header.ensures.header object) in
    subst (All (IsReadable c.args.words.now)) (sym same) (c.requires.readable object)

pub returns : goal.returns
returns c = λ object.
    let words : List ℕ = c.args.words.now in
    let is = c.in_ok-header.ensures.header object in
    let fields : c.as_slice-fields.result.now ≡ fields_at words c.args.at object.header = c.as_slice-fields.ensures.value ∙
    c.in_ok-header.ensures.fields object in
    let same : c.value_words.result.now ≡ value_words_at words c.args.at object.header = c.value_words.ensures ∙ ap (value_words c.in_ok-header.header.kind) fields ∙
    ap (λ (h : Header). value_words h.kind (fields_at words c.args.at object.header)) is in
    let values : c.in_ok-values.values ≡ map (value_in words) (value_words_at words c.args.at object.header) = c.in_ok-values.ensures ∙
    ap (map (value_in words)) same in
    let unset : c.begins_unset.result ≡ begins_unset (fields_at words c.args.at object.header) = c.begins_unset.ensures ∙ ap begins_unset fields in
    IfOk-weaker c.make_node.result _ _ (λ node e. e
    ∙ ap (λ (h : Header). made_of h.kind h c.begins_unset.result c.in_ok-values.values) is
    ∙ ap (λ b. made_of object.header.kind object.header b c.in_ok-values.values) unset
    ∙ ap (made_of object.header.kind object.header (begins_unset (fields_at words c.args.at object.header))) values) c.make_node.ensures
