use Rattle.nmgc_image.proofs.Vocabulary.{ℕ, List, subst, Contains, OnOk, pointers, Visits, ArePointers}
use Rattle.nmgc_image.proofs.places.visit_registers.Goals as goal

pub visit_words-requires-clause-within : goal.visit_words-requires-clause-within
visit_words-requires-clause-within c = λ at p. c.requires.within at (subst (λ (l : List ℕ). Contains (pointers l) at) c.items.ensures p)

pub returns : goal.returns
returns c = subst (λ (l : List ℕ).
    OnOk c.visit_words.result (Visits (ArePointers l) c.args.search.now c.visit_words.new.self)) c.items.ensures c.visit_words.ensures
