use Rattle.nmgc_minor.proofs.{Vocabulary.ℕ, Vocabulary.◌≡◌, Vocabulary.List, Vocabulary.take, Vocabulary.get_or, Vocabulary.slice_index, Vocabulary.length, Vocabulary.ap, Vocabulary.subst, Vocabulary.refl, Vocabulary.sym, Vocabulary.◌∙◌, Vocabulary.arith, Vocabulary.Contains, Vocabulary.take_all, Vocabulary.get_or_default, Vocabulary.Contains-get_or, Vocabulary.Address, Vocabulary.Notes, NoteLaws.notes_as, StartLaws.notes_first, StartLaws.notes_item, StartLaws.within_after}
use Rattle.nmgc_minor.proofs.starts.note_places.Goals as goal

abbrev Of : List ℕ → List Address → ℕ → Type 0
Of words recorded w = (at : Address) × Contains recorded at × (slice_index words at.0 ≡ w)

pub loop-at-init : goal.loop-at-init
loop-at-init g c = record {
  notes = notes_first (λ (at : Address) w. slice_index (g.W.HeapWords.words c.args.words.now) at.0 ≡
      w) c.args.young.now c.args.recorded.now c.requires.young;
  same = refl;
}

pub load-word-requires : goal.load-word-requires
load-word-requires g c =
    let size = ap length c.loop-at.invariant.same in
    let inside = c.requires.inside (get_or c.args.recorded.now c.loop-at.at-index (record {
      0 =
          0;
    })) (Contains-get_or c.args.recorded.now c.loop-at.at-index (record { 0 = 0 }) c.loop-at-test.true) in
    omega (arith, size, inside)

pub note-requires-clause-within : goal.note-requires-clause-within
note-requires-clause-within g c =
    let x : Address = get_or c.args.recorded.now c.loop-at.at-index (record { 0 = 0 }) in
    let words = g.W.HeapWords.words c.args.words.now in
    let read = c.load-word.ensures.word ∙ ap (λ (xs : List ℕ). slice_index xs x.0) c.loop-at.invariant.same in
    rw read (within_after c.args.young.now c.loop-at.young (Of words (take c.loop-at.at-index c.args.recorded.now)) c.loop-at.invariant.notes
    (slice_index words x.0) (c.requires.within x (Contains-get_or c.args.recorded.now c.loop-at.at-index (record { 0 = 0 }) c.loop-at-test.true)))

pub loop-at-preserved : goal.loop-at-preserved
loop-at-preserved g c =
    let x : Address = get_or c.args.recorded.now c.loop-at.at-index (record { 0 = 0 }) in
    let words = g.W.HeapWords.words c.args.words.now in
    let read = c.load-word.ensures.word ∙ ap (λ (xs : List ℕ). slice_index xs x.0) c.loop-at.invariant.same in
    let more = notes_as c.loop-at.young c.note.new.self (λ w. w ≡ c.load-word.result) (λ w. slice_index words x.0 ≡ w) c.note.ensures (λ w e.
    sym read ∙ sym e) (λ w e. sym e ∙ sym read) in
    record {
      notes = notes_item (λ at w. slice_index words at.0 ≡
          w) c.args.young.now c.loop-at.young c.note.new.self c.args.recorded.now c.loop-at.at-index x c.loop-at-test.true
          (get_or_default c.args.recorded.now c.loop-at.at-index (record { 0 = 0 }) x c.loop-at-test.true) c.loop-at.invariant.notes more;
      same = c.load-word.ensures.same ∙ c.loop-at.invariant.same;
    }

pub returns-clause-notes : goal.returns-clause-notes
returns-clause-notes g c =
    let all : take c.loop-at.at-index c.args.recorded.now ≡ c.args.recorded.now = take_all c.loop-at.at-index c.args.recorded.now c.loop-at-test.false in
    subst (λ (xs : List Address). Notes c.args.young.now c.loop-at.young (Of (g.W.HeapWords.words c.args.words.now) xs)) all c.loop-at.invariant.notes
