use Rattle.nmgc_minor.proofs.{Vocabulary.ℕ, Vocabulary.◌≡◌, Vocabulary.List, Vocabulary.take, Vocabulary.length, Vocabulary.slice_index, Vocabulary.refl, Vocabulary.subst, Vocabulary.sym, Vocabulary.ap, Vocabulary.◌∙◌, Vocabulary.arith, Vocabulary.Contains, Vocabulary.take_all, Vocabulary.Contains-get_or, Vocabulary.Address, Vocabulary.contains_flat, Vocabulary.Notes, Vocabulary.IsWithin, StartLaws.notes_first, StartLaws.notes_item, StartLaws.notes_flat, StartLaws.within_after}
use Rattle.nmgc_minor.proofs.starts.note_recorded.Goals as goal

-- the word is in a field at one of these addresses
abbrev Has : List ℕ → List Address → ℕ → Type 0
Has words recorded w = (at : Address) × Contains recorded at × (slice_index words at.0 ≡ w)

pub loop-mutator-init : goal.loop-mutator-init
loop-mutator-init g c = record {
  notes = notes_first (λ m w. Has (g.W.HeapWords.words c.args.words.now) (g.M.MutatorRoots.recorded m) w) c.args.young.now c.args.mutators.now c.requires.young;
  same = refl;
}

pub note_places-requires-clause-inside : goal.note_places-requires-clause-inside
note_places-requires-clause-inside g c = λ at h.
    let f = g.M.MutatorRoots.recorded in
    let ms = c.args.mutators.now in
    let x = c.mutator-item.result in
    let there = subst (λ y. Contains ms y) (sym c.mutator-item.is) (Contains-get_or ms c.loop-mutator.mutator-index x c.loop-mutator-test.true) in
    let inside = c.requires.inside at (contains_flat f ms x at there (subst (λ (l : List Address). Contains l at) c.recorded.ensures h)) in
    let size = ap length c.loop-mutator.invariant.same in
    omega (arith, inside, size)

pub note_places-requires-clause-within : goal.note_places-requires-clause-within
note_places-requires-clause-within g c = λ at h.
    let f = g.M.MutatorRoots.recorded in
    let ms = c.args.mutators.now in
    let words = g.W.HeapWords.words c.args.words.now in
    let x = c.mutator-item.result in
    let there = subst (λ y. Contains ms y) (sym c.mutator-item.is) (Contains-get_or ms c.loop-mutator.mutator-index x c.loop-mutator-test.true) in
    let own = contains_flat f ms x at there (subst (λ (l : List Address). Contains l at) c.recorded.ensures h) in
    subst (λ (ws : List ℕ). IsWithin c.loop-mutator.young (slice_index ws at.0)) (sym c.loop-mutator.invariant.same)
    (within_after c.args.young.now c.loop-mutator.young (λ w. (m : _) × Contains (take c.loop-mutator.mutator-index ms) m × Has words (f m) w)
    c.loop-mutator.invariant.notes (slice_index words at.0) (c.requires.within at own))

pub loop-mutator-preserved : goal.loop-mutator-preserved
loop-mutator-preserved g c =
    let f = g.M.MutatorRoots.recorded in
    let words = g.W.HeapWords.words c.args.words.now in
    let x = c.mutator-item.result in
    let more = subst (λ (y : List ℕ × List Address). Notes c.loop-mutator.young c.note_places.new.young (Has y.0 y.1)) (λ i.
    (c.loop-mutator.invariant.same i, c.recorded.ensures i)) c.note_places.ensures.notes in
    record {
      notes = notes_item (λ m w. Has words (f m) w) c.args.young.now c.loop-mutator.young c.note_places.new.young c.args.mutators.now
          c.loop-mutator.mutator-index x c.loop-mutator-test.true c.mutator-item.is c.loop-mutator.invariant.notes more;
      same = c.note_places.ensures.same ∙ c.loop-mutator.invariant.same;
    }

pub returns-clause-notes : goal.returns-clause-notes
returns-clause-notes g c =
    let f = g.M.MutatorRoots.recorded in
    let ms = c.args.mutators.now in
    let words = g.W.HeapWords.words c.args.words.now in
    let all = take_all c.loop-mutator.mutator-index ms c.loop-mutator-test.false in
    notes_flat f (λ (at : Address) w. slice_index words at.0 ≡ w) c.args.young.now c.loop-mutator.young ms
    (subst (λ xs. Notes c.args.young.now c.loop-mutator.young (λ w. (m : _) × Contains xs m × Has words (f m) w)) all c.loop-mutator.invariant.notes)
