use Rattle.nmgc_mark.proofs.{Vocabulary.ℕ, Vocabulary.◌≡◌, Vocabulary.◌∙◌, Vocabulary.List, Vocabulary.map, Vocabulary.take, Vocabulary.refl, Vocabulary.sym, Vocabulary.subst, Vocabulary.ap, Vocabulary.Contains, Vocabulary.Contains-get_or, Vocabulary.contains_flat, Vocabulary.contains_map, Vocabulary.FinQueue, Vocabulary.Marks, Vocabulary.IsTied, Vocabulary.with_queues, Vocabulary.with_words, Vocabulary.marked_none, Words.queues_more, Fields.marked_more}
use Rattle.nmgc_mark.proofs.marker.Marker.mark_queues.Goals as goal

pub loop-mutator-init : goal.loop-mutator-init
loop-mutator-init g c = record { marked = marked_none c.args.segments.now c.args.self.now c.requires.room; turns = refl; tied = λ o m h. h }

pub mark_all-requires-clause-room : goal.mark_all-requires-clause-room
mark_all-requires-clause-room g c = c.loop-mutator.invariant.marked.room

pub mark_all-requires-clause-small : goal.mark_all-requires-clause-small
mark_all-requires-clause-small g c =
    let f = g.M.MutatorRoots.queue in
    let x = c.mutator-item.result in
    let in_ = subst (λ k.
    Contains c.args.mutators.now k) (sym c.mutator-item.is)
    (Contains-get_or c.args.mutators.now c.loop-mutator.mutator-index x c.loop-mutator-test.true) in
    let there : Contains (map f c.args.mutators.now) (f x) = contains_map f c.args.mutators.now x in_ in
    let read : c.words.result.now ≡ (f x).words = c.words.ensures ∙ ap (λ (q : FinQueue). q.words) c.queue.ensures in
    λ w at k e. c.requires.small w at (contains_flat (λ (q : FinQueue).
    q.words) (map f c.args.mutators.now) (f x) w there (subst (λ (l : List ℕ). Contains l w) read k)) e

pub loop-mutator-preserved : goal.loop-mutator-preserved
loop-mutator-preserved g c =
    let f = g.M.MutatorRoots.queue in
    let xs = c.args.mutators.now in
    let i : ℕ = c.loop-mutator.mutator-index in
    let x = c.mutator-item.result in
    let read : c.words.result.now ≡ (f x).words = c.words.ensures ∙ ap (λ (q : FinQueue). q.words) c.queue.ensures in
    record {
      marked = marked_more c.args.segments.now c.loop-mutator.segments c.mark_all.new.segments c.args.self.now c.loop-mutator.self
          c.mark_all.new.self c.loop-mutator.invariant.marked c.mark_all.ensures.marked;
      turns = c.mark_all.ensures.turns ∙ c.loop-mutator.invariant.turns;
      tied = λ o m h. subst (λ (k : Marks). IsTied o k c.mark_all.new.segments c.mark_all.new.self)
          (ap (λ (l : List ℕ). with_words o (with_queues o m (map f (take i xs))) l) read ∙
          sym (queues_more f o m xs i x c.loop-mutator-test.true c.mutator-item.is))
          (c.mark_all.ensures.tied o (with_queues o m (map f (take i xs))) (c.loop-mutator.invariant.tied o m h));
    }
