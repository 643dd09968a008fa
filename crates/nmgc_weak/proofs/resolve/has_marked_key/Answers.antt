use Rattle.nmgc_weak.proofs.Vocabulary.{◌≡◌, ◌+◌, ◌↔◌, ℕ, sym, ap, subst, ◌∙◌, arith, slice_index, IsTrue, IsKeyMarkedWord}
use Rattle.nmgc_weak.proofs.resolve.has_marked_key.Goals as goal

pub is_key_marked-requires-clause-small : goal.is_key_marked-requires-clause-small
is_key_marked-requires-clause-small g c = λ to e.
    let ws = g.W.HeapWords.words c.args.words.now in
    let place : c.args.at.0 + 2 ≡ c.args.at.0 + 2 + 0 = omega arith in
    c.requires.small 0 to (omega arith) (ap (λ (i : ℕ). slice_index ws i) (sym place) ∙ sym c.load-key.ensures.word ∙ e)

pub returns-clause-marked : goal.returns-clause-marked
returns-clause-marked g c =
    let segments = c.args.segments.now in
    let marked = c.is_key_marked.result in
    let by_epoch : IsTrue marked ↔ IsKeyMarkedWord segments c.args.marker.now.epoch c.load-key.result = subst (λ (e : ℕ). IsTrue marked ↔
    IsKeyMarkedWord segments e c.load-key.result) c.epoch.ensures.epoch c.is_key_marked.ensures in
    subst (λ (w : ℕ). IsTrue marked ↔ IsKeyMarkedWord segments c.args.marker.now.epoch w) c.load-key.ensures.word by_epoch
