use Rattle.nmgc_minor.proofs.{Vocabulary.ℕ, Vocabulary.◌≡◌, Vocabulary.◌*◌, Vocabulary.◌%◌, Vocabulary.List, Vocabulary.subst, Vocabulary.arith, Vocabulary.Contains, Vocabulary.Notes, NoteLaws.notes_none}
use Rattle.nmgc_minor.proofs.starts.note_queue.Goals as goal

-- none of its words points into a nursery
pub returns-then-is_below : goal.returns-then-is_below
returns-then-is_below c = notes_none c.args.young.now (Contains c.args.queue.now.words) c.requires.young (λ at high there.
    let even : 2 * at % 2 ≡ 0 = omega arith in
    let low = c.is_below.ensures c.if-is_below.true (2 * at) there even in
    absurd (omega (arith, low, high)))

pub note_all-requires-clause-within : goal.note_all-requires-clause-within
note_all-requires-clause-within c = λ word there. c.requires.within word (subst (λ (ws : List ℕ). Contains ws word) c.words.ensures there)

pub returns : goal.returns
returns c = subst (λ (ws : List ℕ). Notes c.args.young.now c.note_all.new.self (Contains ws)) c.words.ensures c.note_all.ensures
