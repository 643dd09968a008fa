use Rattle.nmgc_image.proofs.{Vocabulary.◌≡◌, Vocabulary.◌+◌, Vocabulary.ℕ, Vocabulary.sym, Vocabulary.subst, Vocabulary.arith, Vocabulary.take, Vocabulary.get_or, Vocabulary.length, Vocabulary.take_all, Vocabulary.IfNone, Vocabulary.is_pointer, Vocabulary.Visits, Vocabulary.ArePointers, Vocabulary.nothing_in, Vocabulary.Option, Vocabulary.false, Searching.visits_none, Searching.pointer_no, Searching.pointer_yes, Searching.pointer_within, search.Search.visit_words.Goals.in-Some+in_ok-visit, search.Search.visit_words.Goals.in_default}
use Rattle.nmgc_image.proofs.search.Search.visit_words.Goals as goal

pub overflow_cast-at : goal.overflow_cast-at
overflow_cast-at c =
    let is = c.in-Some.ensures.some in
    let lies = pointer_within (length c.args.self.now.seen.items) c.args.words.now c.loop-word.word-index 0 c.loop-word-test.true is.0 c.requires.within in
    let at = is.1 in
    let small = lies.1 in
    omega (arith, at, small)

pub visit-requires-clause-within : goal.visit-requires-clause-within
visit-requires-clause-within c =
    let is = c.in-Some.ensures.some in
    let lies = pointer_within (length c.args.self.now.seen.items) c.args.words.now c.loop-word.word-index 0 c.loop-word-test.true is.0 c.requires.within in
    let room = c.loop-word.invariant.room in
    let at = is.1 in
    let low = lies.0 in
    omega (arith, at, low, room)

pub loop-word-init : goal.loop-word-init
loop-word-init c = visits_none (ArePointers (take 0 c.args.words.now)) c.args.self.now c.requires.sound (λ at b. absurd (nothing_in at b))

pub loop-word-preserved : goal.loop-word-preserved
loop-word-preserved c =
    elim c.match-place_in.branch [
      | in-Some+in_ok-visit w ↦
          let is = w.in-Some.ensures.some in
          subst (Visits (ArePointers (take (c.loop-word.word-index + 1) c.args.words.now)) c.args.self.now) (sym w.self-is)
          (pointer_yes c.args.self.now c.loop-word.self w.visit.new.self c.args.words.now c.loop-word.word-index 0 c.loop-word-test.true is.0
          c.loop-word.invariant (subst (λ (k : ℕ). Visits (λ p. p ≡ k) c.loop-word.self w.visit.new.self) is.1 w.in_ok-visit.ensures))
      | in_default w ↦
          let none = subst (λ (found : Option ℕ). IfNone found (is_pointer (get_or c.args.words.now c.loop-word.word-index 0) ≡ false)) w.in_default.is
          c.place_in.ensures.none in
          subst (Visits (ArePointers (take (c.loop-word.word-index + 1) c.args.words.now)) c.args.self.now) (sym w.self-is)
          (pointer_no c.args.self.now c.loop-word.self c.args.words.now c.loop-word.word-index 0 c.loop-word-test.true none c.loop-word.invariant)
    ]

pub returns : goal.returns
returns c = subst (λ l.
    Visits (ArePointers l) c.args.self.now c.loop-word.self) (take_all c.loop-word.word-index c.args.words.now c.loop-word-test.false) c.loop-word.invariant
