use Rattle.nmgc_minor.proofs.{Vocabulary.ℕ, Vocabulary.◌≡◌, Vocabulary.List, Vocabulary.take, Vocabulary.get_or, Vocabulary.length, Vocabulary.ap, Vocabulary.subst, Vocabulary.refl, Vocabulary.◌∙◌, Vocabulary.arith, Vocabulary.Contains, Vocabulary.take_all, Vocabulary.get_or_default, Vocabulary.Contains-get_or, Vocabulary.Address, Vocabulary.Notes, Vocabulary.IsWeakStart, StartLaws.notes_first, StartLaws.notes_item, StartLaws.within_after}
use Rattle.nmgc_minor.proofs.starts.note_all_weaks.Goals as goal

abbrev Of : List ℕ → List Address → ℕ → Type 0
Of words weaks w = (at : Address) × Contains weaks at × IsWeakStart words at w

pub loop-at-init : goal.loop-at-init
loop-at-init g c = record {
  notes =
      notes_first (IsWeakStart (g.W.HeapWords.words c.args.words.now)) c.args.young.now c.args.weaks.now c.requires.young;
  same = refl;
}

pub note_weak-requires-clause-inside : goal.note_weak-requires-clause-inside
note_weak-requires-clause-inside g c =
    let size = ap length c.loop-at.invariant.same in
    let inside = c.requires.inside (get_or c.args.weaks.now c.loop-at.at-index (record {
      0 =
          0;
    })) (Contains-get_or c.args.weaks.now c.loop-at.at-index (record { 0 = 0 }) c.loop-at-test.true) in
    omega (arith, size, inside)

pub note_weak-requires-clause-within : goal.note_weak-requires-clause-within
note_weak-requires-clause-within g c =
    let x : Address = get_or c.args.weaks.now c.loop-at.at-index (record { 0 = 0 }) in
    rw (c.loop-at.invariant.same) (λ word h.
    within_after c.args.young.now c.loop-at.young (Of (g.W.HeapWords.words c.args.words.now) (take c.loop-at.at-index c.args.weaks.now))
    c.loop-at.invariant.notes word (c.requires.within x word (Contains-get_or c.args.weaks.now c.loop-at.at-index (record {
      0 =
          0;
    }) c.loop-at-test.true) h))

pub loop-at-preserved : goal.loop-at-preserved
loop-at-preserved g c =
    let x : Address = get_or c.args.weaks.now c.loop-at.at-index (record { 0 = 0 }) in
    let notes = subst (λ (ws : List ℕ). Notes c.loop-at.young c.note_weak.new.young (IsWeakStart ws x)) c.loop-at.invariant.same c.note_weak.ensures.notes in
    record {
      notes = notes_item (IsWeakStart (g.W.HeapWords.words c.args.words.now)) c.args.young.now c.loop-at.young c.note_weak.new.young
          c.args.weaks.now c.loop-at.at-index x c.loop-at-test.true (get_or_default c.args.weaks.now c.loop-at.at-index (record {
            0 =
                0;
          }) x c.loop-at-test.true) c.loop-at.invariant.notes notes;
      same = c.note_weak.ensures.same ∙ c.loop-at.invariant.same;
    }

pub returns-clause-notes : goal.returns-clause-notes
returns-clause-notes g c =
    let all : take c.loop-at.at-index c.args.weaks.now ≡ c.args.weaks.now = take_all c.loop-at.at-index c.args.weaks.now c.loop-at-test.false in
    subst (λ (xs : List Address). Notes c.args.young.now c.loop-at.young (Of (g.W.HeapWords.words c.args.words.now) xs)) all c.loop-at.invariant.notes
