-- Several markers list exactly the objects that the one marker marked, from a snapshot's registers and queues.
use Rattle.nmgc_pmark.proofs.Vocabulary.{◌≡◌, ◌≢◌, ◌↔◌, ℕ, List, [], sym, ap, subst, Contains, Name, World, shared_name, IsReached, IsRoot, Facts, State, names_of, Segments, IsSnapshotAt, IsMarkedAt, Place, replay, now, Opening, MarkerSeen, IsStart, roots_of, AreClaims, IsClaimed, IsMarkedAlone}
use Rattle.nmgc_pmark.proofs.Scans.{IsScanned, scanned_from, start_root, root_start}

-- names that are reachable from some names are reachable from more
pub reached_from_more : (w : World) (P Q : Name → Type 0) → ((name : Name) → P name → Q name) → (name : Name) → IsReached w P name → IsReached w Q name
reached_from_more w P Q more name (IsReached.start _ p) = IsReached.start name (more name p)
reached_from_more w P Q more name (IsReached.field from _ r f) = IsReached.field from name (reached_from_more w P Q more from r) f

module _
    (complete : (core : State) → Facts core → core.queue ≡ [] → ((m : ℕ) → names_of core.owed m ≡ []) → ((m : ℕ) → names_of core.pushed m ≡ []) →
    (name : Name) → IsReached core.snapshot (IsRoot core.snapshot) name → Contains core.marked name)
    (o : Opening) (s : Segments) (marker : MarkerSeen) (markers : ℕ) (by : List (List Name)) (alone : IsMarkedAlone o s marker)
    (claims : AreClaims o.core.snapshot (roots_of o.core.snapshot) markers by) where
  abbrev w : World
  w = o.core.snapshot

  abbrev last : State
  last = now o alone.finished.events

  scanned : IsScanned w alone.world last
  scanned = subst (λ (c : State).
      IsScanned w alone.world (replay c alone.finished.events)) (sym alone.begun) (scanned_from w alone.world alone.finished.events alone.finished.scans)

  empty : last.queue ≡ []
  empty = ap (λ (c : State). c.queue) alone.finished.rest

  pub marked_same : (p : Place) → Contains o.places p → IsSnapshotAt s p.at → p.name ≢ shared_name → IsMarkedAt s marker.epoch p.at ↔ IsClaimed by p.name
  marked_same p there in_snapshot other =
      let tie = alone.finished.tied.marks p there in_snapshot in (
        (λ marked. claims.complete p.name (
          reached_from_more w (IsRoot w) (IsStart (roots_of w)) (root_start w alone.world) p.name
              (scanned.reached p.name (tie.0 marked)),
          other,
        )),
        (λ claimed.
            let strong = claims.sound claimed.0 claimed.1 p.name claimed.2 claimed.3 in
            let reached : IsReached w (IsRoot w) p.name = reached_from_more w (IsStart (roots_of w)) (IsRoot w) (start_root w alone.world) p.name strong.0 in
            tie.1 (complete last scanned.facts empty scanned.owed scanned.pushed p.name (subst (λ (v : World).
            IsReached v (IsRoot v) p.name) (sym scanned.snapshot) reached))),
      )
