use Rattle.nmgc_image.proofs.{Vocabulary.arith, Vocabulary.inl, Vocabulary.inr, Vocabulary.ArePointers, Vocabulary.IsOwnRoot, Searching.visits_then, Visiting.on_ok}
use Rattle.nmgc_image.proofs.places.visit_own.Goals as goal

pub visit_registers-requires-clause-within : goal.visit_registers-requires-clause-within
visit_registers-requires-clause-within c = λ at p. c.requires.within at (inl p)

pub visit_queue-requires-clause-within : goal.visit_queue-requires-clause-within
visit_queue-requires-clause-within c = λ at p.
    let h = c.requires.within at (inr p) in
    let low = h.0 in
    let room = c.in_ok-visit_registers.ensures.room in
    (omega (arith, low, room), h.1)

pub returns : goal.returns
returns c = on_ok c.visit_queue.result (λ v.
    visits_then (ArePointers c.args.own.now.registers) (ArePointers c.args.own.now.queue) (IsOwnRoot c.args.own.now) c.args.search.now
    c.visit_registers.new.search c.visit_queue.new.search c.in_ok-visit_registers.ensures v (λ at r. r) (λ at r. r)) c.visit_queue.ensures
