-- The objects that were there as a round began, by address.
use Rattle.std.specs.Prelude.{◌*◌, ◌<◌, ◌≤◌}
use Rattle.nmgc_collector_laws.specs.laws.Vocabulary.{ℕ, suc, List, arith, inl, inr, Contains, mul-le-mul_right, nursery_place, HEADER_WORDS, Place, LiesWell, Opening, CanOpen}

-- they lie below the nurseries: g in its own words, all other objects in segments
pub opened_below : (o : Opening) (before : List ℕ) → CanOpen o before → (p : Place) → Contains o.places p → p.at < nursery_place o.layout 0
opened_below o before can p c = by_place (can.represents.named p c).lies
  where
    by_place : LiesWell o.layout p HEADER_WORDS → p.at < nursery_place o.layout 0
    by_place (inl g) = let e = g.1 in omega arith
    by_place (inr (own, inl s)) =
        let k = s.1 p.at (omega arith) (omega arith) in
        let most : suc s.0 * o.layout.words ≤ o.layout.segments * o.layout.words = mul-le-mul_right o.layout.words k.exists in
        let at = k.before in
        omega arith
    by_place (inr (own, inr n)) =
        let k = n.1 p.at (omega arith) (omega arith) in
        elim (can.is.in_segments p c p.name.maker k.exists) [
          | inl low ↦ absurd (let a = k.from in omega arith)
          | inr high ↦
              absurd (let a = k.before in omega arith)
        ]
