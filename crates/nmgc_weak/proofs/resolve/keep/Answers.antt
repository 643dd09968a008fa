use Rattle.nmgc_weak.proofs.{Vocabulary.◌≡◌, Vocabulary.◌+◌, Vocabulary.ℕ, Vocabulary.List, Vocabulary.sym, Vocabulary.ap, Vocabulary.subst, Vocabulary.◌∙◌, Vocabulary.arith, Vocabulary.slice_index, Vocabulary.Marks, Vocabulary.name_meant, Vocabulary.with_name, Vocabulary.Opening, Vocabulary.IsReady, Vocabulary.IsTied, Vocabulary.value_place, Vocabulary.finaliser_place, Vocabulary.finaliser_is, Counting.marked_sum, Keeping.third, Keeping.three, Keeping.kept, Stages.with_marks, Stages.stage_ready}
use Rattle.nmgc_weak.proofs.resolve.keep.Goals as goal

-- the words that were loaded
value_is : (words : List ℕ) (at w : ℕ) → w ≡ slice_index words (at + 3) → w ≡ slice_index words (value_place at)
value_is words at w e = e ∙ ap (λ i. slice_index words i) (let z : at + 3 ≡ value_place at = omega arith in z)

pub mark_word-requires-clause-small : goal.mark_word-requires-clause-small
mark_word-requires-clause-small g c = λ to e.
    let ws = g.W.HeapWords.words c.args.words.now in
    let at : ℕ = c.args.at.0 in
    let place : value_place at ≡ at + 2 + 1 = omega arith in
    c.requires.within.small 1 to (omega arith) (ap (λ (i : ℕ). slice_index ws i) (sym place) ∙
    sym (value_is ws at c.load-value.result c.load-value.ensures.word) ∙ e)

pub mark_word-requires-2-clause-small : goal.mark_word-requires-2-clause-small
mark_word-requires-2-clause-small g c = λ to e.
    let ws = g.W.HeapWords.words c.args.words.now in
    let at : ℕ = c.args.at.0 in
    let place : finaliser_place at ≡ at + 2 + 2 = omega arith in
    c.requires.within.small 2 to (omega arith) (ap (λ (i : ℕ). slice_index ws i) (sym place) ∙
    sym (finaliser_is ws (g.W.HeapWords.words c.load-value.new.self) at c.load-finaliser.result c.load-value.ensures.same
    c.load-finaliser.ensures.word) ∙ e)

pub finish-requires-clause-ready : goal.finish-requires-clause-ready
finish-requires-clause-ready g c =
    let ws = g.W.HeapWords.words c.args.words.now in
    let at : ℕ = c.args.at.0 in
    let r = c.requires.can in
    let o : Opening = r.0 in
    let v = value_is ws at c.load-value.result c.load-value.ensures.word in
    let f = finaliser_is ws (g.W.HeapWords.words c.load-value.new.self) at c.load-finaliser.result c.load-value.ensures.same c.load-finaliser.ensures.word in
    let st = three o ws c.args.segments.now c.args.marker.now r.1 at r.2 r.3 c.mark_block.new.segments c.mark_word.new.segments c.mark_word-2.new.segments
    c.mark_block.new.self c.mark_word.new.self c.mark_word-2.new.self
    (λ m h. c.mark_block.ensures.tied o m h)
    (λ m h. subst (λ (x : ℕ).
    IsTied o (with_name o.core.snapshot m (name_meant o.places x)) c.mark_word.new.segments c.mark_word.new.self) v (c.mark_word.ensures.tied o m h))
    (λ m h. subst (λ (x : ℕ).
    IsTied o (with_name o.core.snapshot m (name_meant o.places x)) c.mark_word-2.new.segments c.mark_word-2.new.self) f
    (c.mark_word-2.ensures.tied o m h)) in
    let m : Marks = third o ws c.args.segments.now c.args.marker.now r.1 at r.2 r.3 in
    let ready = stage_ready o o.core.opened m ws c.mark_word-2.new.segments c.mark_word-2.new.self r.3.can.marking r.3.can.ready.opens st in (
      with_marks o m,
      subst (λ (l : List ℕ).
          IsReady (with_marks o m) l c.mark_word-2.new.segments c.mark_word-2.new.self) (sym (c.load-finaliser.ensures.same ∙ c.load-value.ensures.same)) ready,
    )

pub returns-clause-marked : goal.returns-clause-marked
returns-clause-marked g c =
    let one = marked_sum c.args.segments.now c.mark_block.new.segments c.mark_word.new.segments c.args.marker.now c.mark_block.new.self c.mark_word.new.self (
      0,
      c.mark_block.ensures.marked,
    ) (0, c.mark_word.ensures.marked) in
    let two = marked_sum c.args.segments.now c.mark_word.new.segments c.mark_word-2.new.segments c.args.marker.now c.mark_word.new.self
    c.mark_word-2.new.self one (0, c.mark_word-2.ensures.marked) in
    marked_sum c.args.segments.now c.mark_word-2.new.segments c.finish.new.segments c.args.marker.now c.mark_word-2.new.self c.finish.new.self two
    c.finish.ensures.marked

pub returns-clause-kept : goal.returns-clause-kept
returns-clause-kept g c = λ o weaks weak h.
    let ws = g.W.HeapWords.words c.args.words.now in
    let at : ℕ = c.args.at.0 in
    let v = value_is ws at c.load-value.result c.load-value.ensures.word in
    let f = finaliser_is ws (g.W.HeapWords.words c.load-value.new.self) at c.load-finaliser.result c.load-value.ensures.same c.load-finaliser.ensures.word in
    let st = three o ws c.args.segments.now c.args.marker.now weaks at weak h c.mark_block.new.segments c.mark_word.new.segments c.mark_word-2.new.segments
    c.mark_block.new.self c.mark_word.new.self c.mark_word-2.new.self
    (λ m k. c.mark_block.ensures.tied o m k)
    (λ m k. subst (λ (x : ℕ).
    IsTied o (with_name o.core.snapshot m (name_meant o.places x)) c.mark_word.new.segments c.mark_word.new.self) v (c.mark_word.ensures.tied o m k))
    (λ m k. subst (λ (x : ℕ).
    IsTied o (with_name o.core.snapshot m (name_meant o.places x)) c.mark_word-2.new.segments c.mark_word-2.new.self) f
    (c.mark_word-2.ensures.tied o m k)) in
    kept o ws c.args.segments.now c.args.marker.now weaks at weak h c.mark_word-2.new.segments c.finish.new.segments c.mark_word-2.new.self c.finish.new.self st
    (λ p ready. c.finish.ensures.finished p (subst (λ (l : List ℕ).
    IsReady p l c.mark_word-2.new.segments c.mark_word-2.new.self) (sym (c.load-finaliser.ensures.same ∙ c.load-value.ensures.same)) ready))
