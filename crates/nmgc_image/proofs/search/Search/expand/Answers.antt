use Rattle.nmgc_image.proofs.Vocabulary.{◌≡◌, ◌∙◌, ℕ, List, ap, sym, subst, length, OnOk, Header, value_words, value_words_at, fields_at, PointWithin, Visits, ArePointers}
use Rattle.nmgc_image.proofs.search.Search.expand.Goals as goal

pub visit_words-requires-clause-within : goal.visit_words-requires-clause-within
visit_words-requires-clause-within c =
    let object = c.requires.object in
    let fields : c.deref.result.now ≡ fields_at c.args.words.now c.args.at object.header = c.deref.ensures.value ∙ c.in_ok-header.ensures.fields object in
    let same : c.value_words.result.now ≡ value_words_at c.args.words.now c.args.at object.header = c.value_words.ensures ∙ ap (value_words c.in_ok-header.header.kind) fields ∙
    ap (λ (h : Header). value_words h.kind (fields_at c.args.words.now c.args.at object.header)) (c.in_ok-header.ensures.header object) in
    subst (PointWithin (length c.args.self.now.seen.items)) (sym same) (c.requires.within object)

pub returns : goal.returns
returns c = λ object.
    let fields : c.deref.result.now ≡ fields_at c.args.words.now c.args.at object.header = c.deref.ensures.value ∙ c.in_ok-header.ensures.fields object in
    let same : c.value_words.result.now ≡ value_words_at c.args.words.now c.args.at object.header = c.value_words.ensures ∙ ap (value_words c.in_ok-header.header.kind) fields ∙
    ap (λ (h : Header). value_words h.kind (fields_at c.args.words.now c.args.at object.header)) (c.in_ok-header.ensures.header object) in
    subst (λ (l : List ℕ). OnOk c.visit_words.result (Visits (ArePointers l) c.args.self.now c.visit_words.new.self)) same c.visit_words.ensures
