use Rattle.std.proofs.Common.{ℕ, List, ◌≡◌, ap, subst, refl, sym, ◌∙◌, length, slice_index, arith}
use Rattle.nmgc_minor.specs.Young.{Notes}
use Rattle.nmgc_stop_spec.specs.Strong.{IsAmong}
use Rattle.nmgc_minor.proofs.NoteLaws.{among_none, among_more, still_within}
use Rattle.nmgc_minor.proofs.young.Young.note_range.Goals as goal

pub loop-at-init : goal.loop-at-init
loop-at-init g c = record { notes = among_none c.args.self.now (g.W.HeapWords.words c.args.words.now) c.args.from c.requires.young; same = refl }

pub load-word-requires : goal.load-word-requires
load-word-requires g c =
    let size = ap length c.loop-at.invariant.same in
    let inside = c.requires.inside in
    omega (arith, size, inside)

pub note-requires-clause-within : goal.note-requires-clause-within
note-requires-clause-within g c =
    let read = c.load-word.ensures.word ∙ ap (λ (xs : List ℕ). slice_index xs c.loop-at.at) c.loop-at.invariant.same in
    still_within c.args.self.now c.loop-at.self (IsAmong (g.W.HeapWords.words c.args.words.now) c.args.from c.loop-at.at) c.load-word.result
    c.loop-at.invariant.notes (c.requires.within c.load-word.result (c.loop-at.at, omega arith, omega arith, sym read))

pub loop-at-preserved : goal.loop-at-preserved
loop-at-preserved g c =
    let read = c.load-word.ensures.word ∙ ap (λ (xs : List ℕ). slice_index xs c.loop-at.at) c.loop-at.invariant.same in
    record {
      notes = among_more c.args.self.now c.loop-at.self c.note.new.self (g.W.HeapWords.words c.args.words.now) c.args.from c.loop-at.at
          c.load-word.result (omega arith) read c.loop-at.invariant.notes c.note.ensures;
      same = c.load-word.ensures.same ∙ c.loop-at.invariant.same;
    }

pub returns-clause-notes : goal.returns-clause-notes
returns-clause-notes g c =
    let up = c.loop-at.auto.at-end c.requires.ordered in
    let end : c.loop-at.at ≡ c.args.to = omega (arith, up, c.loop-at-test.false) in
    subst (λ (k : ℕ). Notes c.args.self.now c.loop-at.self (IsAmong (g.W.HeapWords.words c.args.words.now) c.args.from k)) end c.loop-at.invariant.notes
