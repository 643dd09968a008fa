-- Lemmas that crates above need too.
use Rattle.nmgc_run_laws.specs.{laws.Vocabulary.ℕ, laws.Vocabulary.◌≡◌, laws.Vocabulary.◌<◌, laws.Vocabulary.List, laws.Vocabulary.arith, laws.Vocabulary.sym, laws.Vocabulary.ap, laws.Vocabulary.inl, laws.Vocabulary.inr, laws.Vocabulary.Contains, laws.Vocabulary.Layout, laws.Vocabulary.nursery_place, laws.Vocabulary.Segments, laws.Vocabulary.IsSegments, laws.Vocabulary.Place, laws.Vocabulary.is_block, laws.Vocabulary.MutatorEnd, laws.Vocabulary.HoldsAtStop, laws.Vocabulary.State, laws.Places.block_used}

pub places_low : (layout : Layout) (s : State) (words : List ℕ) (segments : Segments) (mutators : List MutatorEnd) (weaks : List Place) →
    IsSegments segments → (h : HoldsAtStop layout s words segments mutators weaks) → (p : Place) → Contains h.places p → p.at < nursery_place layout 0
places_low layout s words segments mutators weaks sound h p c = elim ((h.all p).0 c) [
  | inl g ↦ let at = ap (λ (q : Place). q.at) g in omega (arith, at)
  | inr b ↦
      let o = block_used layout s.allocation words segments h.holds.layout_is h.holds.stands b.number b.block p.name b.lies in
      let ends : nursery_place layout 0 ≡ nursery_place segments.layout 0 = ap (λ (l : Layout). nursery_place l 0) (sym h.holds.layout_is) in
      let i = is_block segments (nursery_place layout 0) _ _ sound ends o in
      let at = b.at in
      let below = i.below in
      let four = i.four in
      omega (arith, at, below, four)
]
