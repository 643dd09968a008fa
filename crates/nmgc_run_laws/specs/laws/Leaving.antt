-- The places of a round by address; its rows leave every header.
use Rattle.nmgc_run_laws.specs.{laws.Vocabulary.ℕ, laws.Vocabulary.◌≡◌, laws.Vocabulary.◌<◌, laws.Vocabulary.◌≤◌, laws.Vocabulary.List, laws.Vocabulary.arith, laws.Vocabulary.sym, laws.Vocabulary.ap, laws.Vocabulary.inl, laws.Vocabulary.inr, laws.Vocabulary.IsSome, laws.Vocabulary.Contains, laws.Vocabulary.World, laws.Vocabulary.IsWorld, laws.Vocabulary.node_of, laws.Vocabulary.Row, laws.Vocabulary.replayed, laws.Vocabulary.CanReplay, laws.Vocabulary.rows_keep_shapes, laws.Vocabulary.replayed_names, laws.Vocabulary.nursery_place, laws.Vocabulary.Layout, laws.Vocabulary.Segments, laws.Vocabulary.IsSegments, laws.Vocabulary.Place, laws.Vocabulary.IsEarlier, laws.Vocabulary.still_earlier, laws.Vocabulary.world_is_earlier, laws.Vocabulary.is_block, laws.Vocabulary.MutatorEnd, laws.Vocabulary.State, laws.Vocabulary.IsBlockPlace, laws.Vocabulary.IsBornPlace, laws.Vocabulary.HoldsAfterRound, laws.Vocabulary.RowsKeepHeaders, laws.Vocabulary.not_none, laws.Places.block_used}

module _ (layout : Layout) (s t : State) (places : List Place) (words : List ℕ) (segments : Segments) (mutators : List MutatorEnd) (weaks : List Place)
    (sound : IsSegments segments)
    (h : HoldsAfterRound layout s t places words segments mutators weaks) where
  -- blocks lie below the nurseries, and new objects lie in them
  pub block_low : (p : Place) → IsBlockPlace layout t.allocation p → p.at < nursery_place layout 0
  block_low p b =
      let o = block_used layout t.allocation words segments h.holds.layout_is h.holds.stands b.number b.block p.name b.lies in
      let ends : nursery_place layout 0 ≡ nursery_place segments.layout 0 = ap (λ (l : Layout). nursery_place l 0) (sym h.holds.layout_is) in
      let i = is_block segments (nursery_place layout 0) _ _ sound ends o in
      let at = b.at in
      let below = i.below in
      let four = i.four in
      omega (arith, at, below, four)

  pub born_high : (p : Place) → IsBornPlace layout s.world t.world p → nursery_place layout 0 ≤ p.at
  born_high p b = let from = b.nursery.from in omega (arith, from)

  -- an old name has its place below the nurseries
  pub old_low : (p : Place) → Contains places p → IsSome (node_of s.world p.name) → p.at < nursery_place layout 0
  old_low p c old = elim (h.sound p c) [
    | inl (inl g) ↦ let at = ap (λ (q : Place). q.at) g in omega (arith, at)
    | inl (inr b) ↦ block_low p b
    | inr born ↦ absurd (not_none (node_of s.world p.name) born.young.0 old)
  ]

-- an earlier world stays an earlier world after rows
pub rows_keep_earlier : (e w : World) (rows : List Row) → IsWorld w → CanReplay w rows → IsEarlier e w → IsEarlier e (replayed w rows)
rows_keep_earlier e w rows world can earlier = still_earlier e w (replayed w rows) (rows_keep_shapes w rows world can) (replayed_names w rows can) earlier

pub rows_keep_headers : RowsKeepHeaders
rows_keep_headers w rows world can = rows_keep_earlier w w rows world can (world_is_earlier w world)
