use Rattle.nmgc_mark.proofs.{Vocabulary.ℕ, Vocabulary.◌∙◌, Vocabulary.List, Vocabulary.take, Vocabulary.refl, Vocabulary.sym, Vocabulary.subst, Vocabulary.ap, Vocabulary.Contains, Vocabulary.flat_map, Vocabulary.Contains-get_or, Vocabulary.contains_flat, Vocabulary.Marks, Vocabulary.IsTied, Vocabulary.with_words, Vocabulary.marked_none, Words.flat_more, Words.words_append, Fields.marked_more}
use Rattle.nmgc_mark.proofs.marker.Marker.mark_registers.Goals as goal

pub loop-mutator-init : goal.loop-mutator-init
loop-mutator-init g c = record { marked = marked_none c.args.segments.now c.args.self.now c.requires.room; turns = refl; tied = λ o m h. h }

pub mark_all-requires-clause-room : goal.mark_all-requires-clause-room
mark_all-requires-clause-room g c = c.loop-mutator.invariant.marked.room

pub mark_all-requires-clause-small : goal.mark_all-requires-clause-small
mark_all-requires-clause-small g c =
    let x = c.mutator-item.result in
    let in_ = subst (λ k.
    Contains c.args.mutators.now k) (sym c.mutator-item.is)
    (Contains-get_or c.args.mutators.now c.loop-mutator.mutator-index x c.loop-mutator-test.true) in
    λ w at k e. c.requires.small w at (contains_flat g.M.MutatorRoots.registers c.args.mutators.now x w in_ (subst (λ (l : List ℕ).
    Contains l w) c.registers.ensures k)) e

pub loop-mutator-preserved : goal.loop-mutator-preserved
loop-mutator-preserved g c =
    let f = g.M.MutatorRoots.registers in
    let xs = c.args.mutators.now in
    let i : ℕ = c.loop-mutator.mutator-index in
    let x = c.mutator-item.result in
    record {
      marked = marked_more c.args.segments.now c.loop-mutator.segments c.mark_all.new.segments c.args.self.now c.loop-mutator.self
          c.mark_all.new.self c.loop-mutator.invariant.marked c.mark_all.ensures.marked;
      turns = c.mark_all.ensures.turns ∙ c.loop-mutator.invariant.turns;
      tied = λ o m h. subst (λ (k : Marks). IsTied o k c.mark_all.new.segments c.mark_all.new.self)
          (ap (λ (l : List ℕ). with_words o (with_words o m (flat_map f (take i xs))) l) c.registers.ensures
          ∙ sym (words_append o m (flat_map f (take i xs)) (f x))
          ∙ ap (λ (l : List ℕ). with_words o m l) (sym (flat_more f xs i x c.loop-mutator-test.true c.mutator-item.is)))
          (c.mark_all.ensures.tied o (with_words o m (flat_map f (take i xs))) (c.loop-mutator.invariant.tied o m h));
    }
