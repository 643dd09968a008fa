use Rattle.nmgc_image.proofs.Vocabulary.{take, Visits, ArePointers}
use Rattle.nmgc_image.proofs.search.Search.visit_words.Given as goal

abbrev pub invariant-loop-word : goal.invariant-loop-word
invariant-loop-word l = Visits (ArePointers (take l.word-index l.words)) l.initial.self l.self
