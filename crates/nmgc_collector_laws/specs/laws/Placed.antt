-- The places after a round: the places as it began, and the places of new objects.
use Rattle.std.specs.Prelude.{◌≡◌, ◌⊎◌}
use Rattle.nmgc_collector_laws.specs.laws.Vocabulary.{List, map, refl, inl, inr, Contains, Contains-append_left, Contains-append_right, Contains-append_cases, Place, contains_map, map_contains, Opening, Object, place_of, IsIn, IsPlace, places_then}

-- a place was there as the round began, or belongs to a new object
pub place_cases : (o : Opening) (born : List Object) (p : Place) → Contains (places_then o born) p → Contains o.places p ⊎
    ((x : Object) × Contains born x × (p ≡ place_of x))
place_cases o born p c = elim (Contains-append_cases o.places (map place_of born) p c) [ inl d ↦ inl d | inr d ↦ inr (map_contains place_of born p d) ]

-- an object of the round has one of these places
pub in_place : (o : Opening) (born : List Object) (p : Place) → IsIn o born p → Contains (places_then o born) p
in_place o born p (node, inl old) = Contains-append_left o.places (map place_of born) p old.there
in_place o born p (node, inr new) = Contains-append_right o.places (map place_of born) p (contains_map place_of born (record {
  at = p.at;
  name = p.name;
  node = node;
}) new)

-- an object of the round has a place in use
pub is_place : (o : Opening) (born : List Object) (p : Place) → IsIn o born p → IsPlace o born p
is_place o born p (node, inl old) = inl old.there
is_place o born p (node, inr new) = inr (record { at = p.at; name = p.name; node = node }, new, refl)
