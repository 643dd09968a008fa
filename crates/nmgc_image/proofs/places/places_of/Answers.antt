use Rattle.nmgc_image.proofs.{Vocabulary.ℕ, Vocabulary.◌≡◌, Vocabulary.List, Vocabulary.[], Vocabulary.subst, Vocabulary.inl, Vocabulary.inr, Vocabulary.Contains, Vocabulary.nothing_in, Vocabulary.Search, Vocabulary.Visits, Vocabulary.IsRootPlace, Visiting.reaches_in}
use Rattle.nmgc_image.proofs.places.places_of.Goals as goal

-- a search that began empty has exactly the added addresses
added : (P : ℕ → Type 0) (s t : Search) → s.order.items ≡ [] → Visits P s t → (at : ℕ) → Contains t.order.items at → P at
added P s t none v at c = elim (v.only at c) [
  | inl old ↦ absurd (nothing_in at (subst (λ (l : List ℕ). Contains l at) none old))
  | inr p ↦ p
]

pub run-requires-clause-objects : goal.run-requires-clause-objects
run-requires-clause-objects c = λ at r.
    let P : ℕ → Type 0 = IsRootPlace c.args.report.now in
    c.requires.objects at (reaches_in c.args.report.now.words (Contains c.visit_roots.new.search.order.items) (IsRootPlace c.args.report.now)
    (added (IsRootPlace c.args.report.now) c.in_ok-search.search c.visit_roots.new.search c.in_ok-search.ensures.none c.in_ok-visit_roots.ensures) at r)

pub returns : goal.returns
returns c = λ at.
    let to = added (IsRootPlace c.args.report.now) c.in_ok-search.search c.visit_roots.new.search c.in_ok-search.ensures.none c.in_ok-visit_roots.ensures in (
      λ h. reaches_in c.args.report.now.words (Contains c.visit_roots.new.search.order.items) (IsRootPlace c.args.report.now) to at
          ((c.in_ok-run.ensures at).0 h),
      λ r. (c.in_ok-run.ensures at).1 (reaches_in c.args.report.now.words (IsRootPlace c.args.report.now)
          (Contains c.visit_roots.new.search.order.items) c.in_ok-visit_roots.ensures.all at r),
    )
