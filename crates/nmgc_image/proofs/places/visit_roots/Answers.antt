use Rattle.nmgc_image.proofs.{Vocabulary.◌≡◌, Vocabulary.◌⊎◌, Vocabulary.List, Vocabulary.refl, Vocabulary.subst, Vocabulary.arith, Vocabulary.inl, Vocabulary.inr, Vocabulary.SHARED_PLACE, Vocabulary.MutatorEnd, Vocabulary.Visits, Vocabulary.IsMutatorRoot, Vocabulary.IsWeakRoot, Vocabulary.IsRootPlace, Searching.visits_then, Visiting.on_ok, Visiting.root_within}
use Rattle.nmgc_image.proofs.places.visit_roots.Goals as goal

pub visit-requires-clause-within : goal.visit-requires-clause-within
visit-requires-clause-within c =
    let h = root_within c.args.report.now c.requires.ready SHARED_PLACE (inl refl) in
    let low = h.0 in
    let room = c.requires.room in
    omega (arith, low, room)

pub visit_mutators-requires-clause-within : goal.visit_mutators-requires-clause-within
visit_mutators-requires-clause-within c = λ at r.
    let h = root_within c.args.report.now c.requires.ready at (inr (inl (subst (λ (l : List MutatorEnd). IsMutatorRoot l at) c.items.ensures r))) in
    let low = h.0 in
    let room = c.requires.room in
    let more = c.in_ok-visit.ensures.room in
    (omega (arith, low, room, more), h.1)

pub returns : goal.returns
returns c =
    let mutators = c.args.report.now.mutators in
    let held : Visits (IsMutatorRoot mutators) c.visit.new.self c.visit_mutators.new.search =
    subst (λ (l : List MutatorEnd).
    Visits (IsMutatorRoot l) c.visit.new.self c.visit_mutators.new.search) c.items.ensures c.in_ok-visit_mutators.ensures in
    let first : Visits (λ at. (at ≡ SHARED_PLACE) ⊎ IsMutatorRoot mutators at) c.args.search.now c.visit_mutators.new.search =
    visits_then (λ at. at ≡ SHARED_PLACE) (IsMutatorRoot mutators) (λ at. (at ≡ SHARED_PLACE) ⊎
    IsMutatorRoot mutators at) c.args.search.now c.visit.new.self c.visit_mutators.new.search c.in_ok-visit.ensures held (λ at r. r) (λ at r. r) in
    on_ok c.visit_weaks.result (λ v. visits_then (λ at. (at ≡ SHARED_PLACE) ⊎
    IsMutatorRoot mutators at) (IsWeakRoot c.args.report.now) (IsRootPlace c.args.report.now) c.args.search.now c.visit_mutators.new.search
    c.visit_weaks.new.search first v
    (λ at r. elim r [ inl e ↦ inl (inl e) | inr (inl m) ↦ inl (inr m) | inr (inr k) ↦ inr k ])
    (λ at r. elim r [ inl (inl e) ↦ inl e | inl (inr m) ↦ inr (inl m) | inr k ↦ inr (inr k) ])) c.visit_weaks.ensures
