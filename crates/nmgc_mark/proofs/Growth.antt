-- A marker stays tied when there are more objects.
use Rattle.nmgc_mark.proofs.Vocabulary.{inr, ◌↔◌, ℕ, List, [], ◌∷◌, refl, subst, Contains, Entry, Segments, Place, Opening, Marks, IsMarkedAt, MarkerSeen, IsRightSnapshot, AreQueued, IsTied}

more_queued : (few more : List Place) → ((p : Place) → Contains few p → Contains more p) → (ats : List ℕ) (entries : List Entry) →
    AreQueued few ats entries → AreQueued more ats entries
more_queued few more sub [] [] h = tt
more_queued few more sub (at ∷ ats) (e ∷ es) h = ((sub (record { at = at; name = e.name }) h.0.0, h.0.1), more_queued few more sub ats es h.1)
more_queued few more sub [] (e ∷ es) h = absurd h
more_queued few more sub (at ∷ ats) [] h = absurd h

pub more_places : (o : Opening) (places : List Place) (m : Marks) (s : Segments) (marker : MarkerSeen) →
    ((p : Place) → Contains o.places p → Contains places p) → IsRightSnapshot (record o { places = places }) s → IsTied o m s marker →
    IsTied (record o { places = places }) m s marker
more_places o places m s marker sub right h = record {
  snapshot = right;
  shared = h.shared;
  marks = λ p c g.
      let k = h.snapshot.sound p.at g in
      let same = right.apart.one (record { at = p.at; name = k.0 }) p (sub (record { at = p.at; name = k.0 }) k.1) c (inr refl) in
      subst (λ (q : Place). IsMarkedAt s marker.epoch q.at ↔ Contains m.marked q.name) same (h.marks (record { at = p.at; name = k.0 }) k.1 g);
  order = h.order;
  queue = more_queued o.places places sub marker.queue m.queue h.queue;
  count = h.count;
}
