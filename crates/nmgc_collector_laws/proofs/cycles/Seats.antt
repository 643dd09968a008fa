-- The view of all seats together, if the collector's seat has scans.
use Rattle.nmgc_collector_laws.proofs.Vocabulary.{◌≡◌, ℕ, suc, Bool, false, cond, List, [], ◌∷◌, ◌++◌, map, refl, sym, ap, subst, ◌∙◌, Some, slice_get, map_item, Opening, Part, Scan, Seen, whole, RoundSeat, seen, collecting, together, all_together, HasEach, HaveWorked, slice_at, slices_gathered, gathered, SlicesAreGathered, same_opening, still_collects}

same_parts : (u v : Seen) (ws : List Seen) → u.parts ≡ v.parts → (all_together u ws).parts ≡ (all_together v ws).parts
same_parts u v [] e = e
same_parts u v (w ∷ ws) e = same_parts (together u w) (together v w) ws (ap (λ (ps : List Part). ps ++ w.parts) e)

-- its scans are the first seat's, if no other seat is a collector's
same_scans : (v : Seen) (ws : List Seen) → ((k : ℕ) (w : Seen) → slice_get ws k ≡ Some w → w.collects ≡ false) → (all_together v ws).scans ≡ v.scans
same_scans v [] none = refl
same_scans v (w ∷ ws) none = same_scans (together v w) ws (λ k u e. none (suc k) u e) ∙ ap (λ (b : Bool). cond b w.scans v.scans) (none 0 w refl)

pub parts_gathered : (o : Opening) (scans : List Scan) (seats : List RoundSeat) →
    (gathered o scans seats).parts ≡ (all_together (collecting (whole o)) (map seen seats)).parts
parts_gathered o scans seats = same_parts (record (collecting (whole o)) { scans = scans }) (collecting (whole o)) (map seen seats) refl

pub seats_gathered : SlicesAreGathered
seats_gathered o before round old mutators seats done scans opens h =
    let plain = slices_gathered o before round old mutators seats done opens h in
    let first : Seen = record (collecting (whole o)) { scans = scans } in
    let parts = parts_gathered o scans seats in
    let opening : (gathered o scans seats).opening ≡ o = same_opening first (map seen seats) in
    let each : HasEach o (all_together (collecting (whole o)) (map seen seats)) =
    rw (same_opening (collecting (whole o)) (map seen seats)) at plain.0.1 in
    record {
      all = (
        still_collects first (map seen seats) refl,
        rw opening (rw parts each),
      );
      worked = subst (λ (ps : List Part). HaveWorked o ps mutators done) (sym parts) plain.2;
      opening = opening;
      scans_are = same_scans first (map seen seats) (λ k w e. let seat = map_item seen seats k w e in cc (
        seat.2,
        (slice_at o before round old mutators seats done opens h k seat.0 seat.1).did.went.is.no_collector,
      ));
    }
