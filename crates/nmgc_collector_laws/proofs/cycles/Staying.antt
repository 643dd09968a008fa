-- A promotion keeps the tie: moved objects are new, and so in no snapshot, whose blocks keep their marks and addresses.
use Rattle.nmgc_collector_laws.proofs.Vocabulary.{◌≡◌, ◌≢◌, ◌⊎◌, ◌<◌, ◌≤◌, ℕ, List, [], ◌∷◌, length, map, sym, ap, subst, ◌∙◌, arith, inl, inr, Some, None, slice_index, IsSome, Contains, cases_eq, Name, World, IsWorld, node_of, contains_head, contains_tail, is_some_of, contains_one, map_contains, Layout, nursery_place, absent, IsEpoch, Segment, InUse, InSnapshot, IsMarked, mark_of, Free, Entry, Facts, Core, live_there, facts_kept, snapshot_theorem, nth, Segments, HasNumber, AllocState, LiesIn, IsIn, cells, name_in, IsSnapshotAt, IsMarkedAt, Carries, Within, carried_at, snapshot_within, marked_within, free_empty, free_or_not, stands_sound, Place, Moved, old_place, settled_stays, Stopped, young_base, AreAt, AreRemembered, IsCoreOf, IsRightSnapshot, AreMarked, IsTied, HasRoomToMark, MarkerSeen, Cycle, HasPromoted, places_after, epoch_is_epoch, lies_within, newest_first}
use Rattle.nmgc_collector_laws.proofs.{cycles.Beginning.epoch_is_some, cycles.Placing.Stay, cycles.Placing.each_stay}

-- places of names in a list that has them too
pub at_kept : (places more : List Place) (ats : List ℕ) (names : List Name) →
    ((p : Place) → Contains places p → Contains ats p.at → Contains names p.name → Contains more p) → AreAt places ats names → AreAt more ats names
at_kept places more [] [] kept h = tt
at_kept places more [] (name ∷ names) kept h = h
at_kept places more (at ∷ ats) [] kept h = h
at_kept places more (at ∷ ats) (name ∷ names) kept h = (
  kept (record { at = at; name = name }) h.0 (contains_head at ats) (contains_head name names),
  at_kept places more ats names (λ p c d e. kept p c (contains_tail at ats p.at d) (contains_tail name names p.name e)) h.1,
)

-- entries remembered below the nurseries are still at these places
pub remembered_stays : (c : Cycle) (t : Stopped) (new : Segments) (moves : List Moved) (entries : List ℕ) (pushed : List Name) →
    ((at : ℕ) → Contains entries at → at < young_base new) → AreRemembered c t.places entries pushed → AreRemembered c (places_after new moves t) entries pushed
remembered_stays c t new moves entries pushed low r = record {
  names = r.names;
  at = at_kept t.places (places_after new moves t) entries r.names (λ p d e f. settled_stays (young_base new) moves t.places p d (low p.at e)) r.at;
  counted = r.counted;
}

module _ (c : Cycle) (t : Stopped) (s new : Segments) (words after registers : List ℕ) (queues : List (List ℕ)) (moves : List Moved)
    (allocation placed : AllocState) (marker : MarkerSeen) (core : Core)
    (h : HasPromoted c t s new words after registers queues moves allocation placed) (world : IsWorld c.snapshot)
    (machine : IsCoreOf c t.world core) (tied : IsTied c allocation s t.places marker core) where
  abbrev moved_names : List Name
  moved_names = map (λ (m : Moved). m.name) moves

  base_is : young_base new ≡ young_base s
  base_is = ap (λ (l : Layout). nursery_place l 0) h.layout_is

  spoken : Contains t.later c.snapshot
  spoken = subst (λ (l : List World). Contains l c.snapshot) (sym h.later_is) (contains_one c.snapshot)

  -- moved objects are new, so the snapshot doesn't have them
  new_to_began : (n : Name) → Contains moved_names n → node_of t.began n ≡ None
  new_to_began n d = (h.is_settled.promoted.sound n d).0.0

  new_to_snapshot : (n : Name) → Contains moved_names n → IsSome (node_of c.snapshot n) → ⊥
  new_to_snapshot n d there =
      let m = map_contains (λ (m : Moved). m.name) moves n d in
      let place : Place = old_place m.0 in
      let here : Contains t.places place = h.is_settled.moved m.0 m.1 in
      let high : young_base s ≤ place.at = (h.round.young place here).1 (ap (λ (k : Name). node_of t.began k) (sym m.2) ∙ new_to_began n d) in
      let low : place.at < young_base s = h.round.outside c.snapshot place spoken here (subst (λ (k : Name). IsSome (node_of c.snapshot k)) m.2 there) in
      absurd (omega arith)

  stay : Stay allocation placed moved_names
  stay = each_stay s.layout t.world allocation placed moved_names h.places_each
      (free_empty s.layout allocation (stands_sound s words allocation h.sound h.stood))

  old_or_new : (number block : ℕ) (n : Name) → LiesIn placed number block n → Contains moved_names n ⊎ LiesIn allocation number block n
  old_or_new = stay.was

  not_before : (number block : ℕ) (n : Name) → Contains moved_names n → LiesIn allocation number block n → ⊥
  not_before number block n d lies = absent (node_of t.began n) (new_to_began n d) (h.known number block n lies)

  marked_there : (n : Name) → Contains core.marked n → IsSome (node_of c.snapshot n)
  marked_there n d = live_there c.snapshot core.opened world n
      (((snapshot_theorem newest_first c.snapshot world machine.events c.rows core machine.runs).before machine.open_yet).live n d)

  same_size : length new.segments ≡ length s.segments
  same_size = h.sound_after.count ∙ ap (λ (l : Layout). l.segments) h.layout_is ∙ sym h.sound.count

  -- marks and index of a segment are as before
  same_mark : (number block : ℕ) → mark_of (nth new.segments number) block ≡ mark_of (nth s.segments number) block
  same_mark number block = ap (λ (l : List ℕ). slice_index l block) (h.marks.marks number)

  snapshot_after : (number block : ℕ) → InSnapshot (nth s.segments number) block → InSnapshot (nth new.segments number) block
  snapshot_after number block (inl low) = inl (subst (λ n. block < n) (sym (h.marks.snap number)) low)
  snapshot_after number block (inr marked) = inr (λ e. marked (sym (same_mark number block) ∙ e))

  snapshot_before : (number block : ℕ) → InSnapshot (nth new.segments number) block → InSnapshot (nth s.segments number) block
  snapshot_before number block (inl low) = inl (subst (λ n. block < n) (h.marks.snap number) low)
  snapshot_before number block (inr marked) = inr (λ e. marked (same_mark number block ∙ e))

  right_snapshot : IsRightSnapshot c placed new
  right_snapshot number block = (
    λ snap. let has = (tied.snapshot number block).0 (snapshot_before number block snap) in (has.0, stay.lies number block has.0 has.1, has.2),
    λ has. elim (old_or_new number block has.0 has.1) [
      | inl young ↦ absurd (new_to_snapshot has.0 young has.2)
      | inr old ↦ snapshot_after number block ((tied.snapshot number block).1 (has.0, old, has.2))
    ],
  )

  -- a block that was placed was not in use
  not_used : (number block : ℕ) (n : Name) → Contains moved_names n → LiesIn placed number block n → InUse (nth s.segments number) block → ⊥
  not_used number block n young lies used =
      let there : HasNumber s number = let lt = lies_within new after placed h.stands number block n lies in let same = same_size in omega arith in
      let name = is_some_of (name_in (cells allocation number) block) (((h.stood.shows number there).used block).1 used) in
      let still : LiesIn placed number block name.0 = stay.lies number block name.0 name.1 in
      let both : Some name.0 ≡ Some n = sym still ∙ lies in
      let is : name.0 ≡ n = cc in
      not_before number block n young (subst (λ (k : Name). LiesIn allocation number block k) is name.1)

  not_marked : (number block : ℕ) (n : Name) → Contains moved_names n → LiesIn placed number block n → IsMarked (nth new.segments number) marker.epoch block → ⊥
  not_marked number block n young lies marked = elim (cases_eq (mark_of (nth s.segments number) block) 0) [
    | inl none ↦ epoch_is_some c.number (sym tied.epoch ∙ sym marked ∙ same_mark number block ∙ none)
    | inr some ↦ not_used number block n young lies (inr some)
  ]

  are_marked : AreMarked core placed new marker.epoch
  are_marked number block n lies = elim (old_or_new number block n lies) [
    | inl young ↦ (λ marked. absurd (not_marked number block n young lies marked), λ d. absurd (new_to_snapshot n young (marked_there n d)))
    | inr old ↦ (
      λ marked. (tied.marks number block n old).0 (sym (same_mark number block) ∙ marked),
      λ d. same_mark number block ∙
          (tied.marks number block n old).1 d,
    )
  ]

  -- entries that wait are of the snapshot, so they lie below the nurseries
  facts : Facts core
  facts = facts_kept newest_first c.snapshot world machine.events c.rows core machine.runs machine.open_yet

  waits_there : (n : Name) → Contains (map (λ (entry : Entry). entry.name) core.queue) n → IsSome (node_of c.snapshot n)
  waits_there n d =
      let entry = map_contains (λ (entry : Entry). entry.name) core.queue n d in
      subst (λ (k : Name). IsSome (node_of c.snapshot k)) (sym entry.2) (marked_there entry.0.name (facts.base.queued entry.0 entry.1))

  queue_stays : AreAt (places_after new moves t) marker.queue (map (λ (entry : Entry). entry.name) core.queue)
  queue_stays = at_kept t.places (places_after new moves t) marker.queue (map (λ (entry : Entry). entry.name) core.queue) (λ p d e f.
      settled_stays (young_base new) moves t.places p d (let low = h.round.outside c.snapshot p spoken d (waits_there p.name f) in
      subst (λ n. p.at < n) (sym base_is) low)) tied.queue

  tie_stays : IsTied c placed new (places_after new moves t) marker core
  tie_stays = record {
    epoch = tied.epoch;
    snapshot = right_snapshot;
    marks = are_marked;
    order = tied.order;
    queue = queue_stays;
    fresh = tied.fresh;
    count = tied.count;
  }

  -- a segment in use keeps its class
  class_stays : (number : ℕ) → HasNumber s number → (nth s.segments number).state ≢ Free → (nth new.segments number).class ≡ (nth s.segments number).class
  class_stays number there used =
      let was = h.stood.shows number there in
      let now = h.stands.shows number (let same = same_size in omega arith) in
      let in_use : IsIn Free (cells allocation number) → ⊥ = λ free. used (sym was.state ∙ free) in
      sym (now.class (stay.used number in_use)) ∙ stay.class number in_use ∙ was.class in_use

  carries : (Such : Segment → ℕ → Type 0) → Within Such → ((number block : ℕ) → Such (nth new.segments number) block →
      Such (nth s.segments number) block) → ((number block : ℕ) → Such (nth s.segments number) block → Such (nth new.segments number) block) →
      (number : ℕ) → HasNumber s number → Carries Such Such (nth s.segments number) (nth new.segments number)
  carries Such within back on number there = record {
    same = λ block. (back number block, on number block);
    class = elim (free_or_not (nth s.segments number).state) [
      | inl free ↦ inr (λ block such. (within (nth s.segments number) block (h.sound.members number there).sound such).0 free)
      | inr used ↦ inl (class_stays number there used)
    ];
    marks = ap (λ (l : List ℕ). length l) (h.marks.marks number);
  }

  epoch_sound : IsEpoch marker.epoch
  epoch_sound = subst IsEpoch (sym tied.epoch) (epoch_is_epoch c.number)

  snapshot_at : (at : ℕ) → IsSnapshotAt new at → IsSnapshotAt s at
  snapshot_at at = (carried_at InSnapshot InSnapshot snapshot_within snapshot_within s new h.sound h.sound_after h.layout_is same_size
      (carries InSnapshot snapshot_within snapshot_before snapshot_after) at).0

  marked_at : (at : ℕ) → IsMarkedAt s marker.epoch at → IsMarkedAt new marker.epoch at
  marked_at at =
      let Such : Segment → ℕ → Type 0 = λ segment block. IsMarked segment marker.epoch block in
      let within : Within Such = marked_within marker.epoch epoch_sound in
      (carried_at Such Such within within s new h.sound h.sound_after h.layout_is same_size
      (carries Such within (λ number block e. sym (same_mark number block) ∙ e) (λ number block e. same_mark number block ∙ e)) at).1

  room_stays : HasRoomToMark s marker → HasRoomToMark new marker
  room_stays r = record { places = r.places; all = λ at snap not. r.all at (snapshot_at at snap) (λ was. not (marked_at at was)); room = r.room }

-- the marker is tied to the same machine, at the places after the promotion, and has room as before
pub tie_is_kept : (c : Cycle) (t : Stopped) (s new : Segments) (words after registers : List ℕ) (queues : List (List ℕ)) (moves : List Moved)
    (allocation placed : AllocState) (marker : MarkerSeen) (core : Core) →
    HasPromoted c t s new words after registers queues moves allocation placed → IsWorld c.snapshot → IsCoreOf c t.world core →
    IsTied c allocation s t.places marker core →
    IsTied c placed new (places_after new moves t) marker core × (HasRoomToMark s marker → HasRoomToMark new marker)
tie_is_kept c t s new words after registers queues moves allocation placed marker core h world machine tied = (
  tie_stays c t s new words after registers queues moves allocation placed marker core h world machine tied,
  room_stays c t s new words after registers queues moves allocation placed marker core h world machine tied,
)
