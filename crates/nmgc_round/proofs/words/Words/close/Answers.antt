use Rattle.nmgc_round.proofs.{Vocabulary.◌∙◌, Vocabulary.slots_items, Vocabulary.words_of, Modes.final}
use Rattle.nmgc_round.proofs.words.Words.close.Goals as goal

pub returns-clause-words : goal.returns-clause-words
returns-clause-words c =
    let p = c.self.inside.seat in
    let k = c.close_with.result in
    let last = rw c.self.invariant.2 at c.close_with.ensures.values.2 in
    final p.id (words_of p) (slots_items k.words) (slots_items k.slots) last ∙ c.self.view_is
