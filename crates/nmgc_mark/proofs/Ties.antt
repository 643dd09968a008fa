-- One mark at an address: the room, the count, and the marks of the machine.
use Rattle.nmgc_mark.proofs.Vocabulary.{ne_eqb, eq-eqb, ◌≡◌, ◌≢◌, inl, inr, ℕ, ◌+◌, ◌*◌, ◌<◌, ◌/◌, ◌%◌, Bool, true, false, not, ◌&&◌, cond, eqb, IsTrue, List, [], ◌∷◌, ◌++◌, length, length-append, refl, sym, ap, subst, ◌∙◌, arith, Option, Some, None, is_some, Contains, IsSome, Contains-append_left, Contains-push, Contains-push_cases, Name, World, node_of, shared_name, contains_head, contains_tail, contains_cases, IsEpoch, joined, is_listed, entry_of, contains_listed, not_listed, Segments, IsSegments, IsBlockAt, MarksBlock, MarksPlace, IsSnapshotAt, IsMarkedAt, marks_place, marked_stands, Place, Opening, Marks, name_at, name_meant, with_name, MarkerSeen, HasRoomToMark, MarksAt, HasScanned, HasMarked, StandAsBefore, noted, IsRightSnapshot, AreQueued, IsTied, some_at, found_at, never}

-- no block begins there, and nothing is marked
no_place : (s : Segments) (epoch at : ℕ) → ((number block : ℕ) → IsBlockAt s number block at → ⊥) → MarksPlace s s epoch at false
no_place s epoch at none = record {
  to_mark = (λ t. never t, λ p. let g = p.0 in absurd (none g.0 g.1 g.2));
  snapshot = λ a. (λ g. g, λ g. g);
  marked = λ a. (λ g. inl g, λ k. elim k [ inl g ↦ g | inr (t, e) ↦ never t ]);
}

pub nothing_there : (s : Segments) (marker : MarkerSeen) (at : ℕ) → ((number block : ℕ) → IsBlockAt s number block at → ⊥) → MarksAt s s marker marker at
nothing_there s marker at none = record { answer = false; place = no_place s marker.epoch at none; marker = refl; layout = refl; stands = λ words a h. h }

-- there is room for a block that is to be marked
room_one : (s : Segments) (marker : MarkerSeen) (at : ℕ) → HasRoomToMark s marker → IsSnapshotAt s at → (IsMarkedAt s marker.epoch at → ⊥) → 0 < marker.spare
room_one s marker at h g fresh = let c = h.all at g fresh in let lt = c.1 in let le = h.room in omega arith

pub place_done : (old new : Segments) (before : MarkerSeen) (at epoch : ℕ) (answer : Bool) → epoch ≡ before.epoch → IsEpoch before.epoch →
    IsSegments old → MarksBlock old new at epoch answer → MarksPlace old new before.epoch at answer
place_done old new before at epoch answer e he h m = marks_place old new at before.epoch answer he h (subst (λ n. MarksBlock old new at n answer) e m)

pub stand_done : (old new : Segments) (before : MarkerSeen) (at epoch : ℕ) (answer : Bool) → epoch ≡ before.epoch → IsEpoch before.epoch →
    IsSegments old → MarksBlock old new at epoch answer → StandAsBefore old new
stand_done old new before at epoch answer e he h m words a s =
    marked_stands old new words a at before.epoch answer he h s (subst (λ n. MarksBlock old new at n answer) e m)

room_of : (old new : Segments) (before : MarkerSeen) (at : ℕ) (answer : Bool) → HasRoomToMark old before →
    MarksPlace old new before.epoch at answer → IsTrue answer → 0 < before.spare
room_of old new before at answer room p t = let g = p.to_mark.0 t in room_one old before at room g.0 g.1

pub room_done : (old new : Segments) (before : MarkerSeen) (at epoch : ℕ) (answer : Bool) → HasRoomToMark old before → epoch ≡ before.epoch →
    IsEpoch before.epoch → IsSegments old → MarksBlock old new at epoch answer → IsTrue answer → 0 < before.spare
room_done old new before at epoch answer room e he h m t = room_of old new before at answer room (place_done old new before at epoch answer e he h m) t

pub done_then : (old new : Segments) (before later : MarkerSeen) (at epoch : ℕ) (answer : Bool) → epoch ≡ before.epoch → IsEpoch before.epoch →
    IsSegments old → MarksBlock old new at epoch answer → IsTrue answer → later ≡ noted true at before → MarksAt old new before later at
done_then old new before later at epoch true e he h m t is = record {
  answer = true;
  place = place_done old new before at epoch true e he h m;
  marker = is;
  layout = ap (λ (x : Segments). x.layout) m.value;
  stands = stand_done old new before at epoch true e he h m;
}
done_then old new before later at epoch false e he h m t is = never t

pub done_else : (old new : Segments) (before : MarkerSeen) (at epoch : ℕ) (answer : Bool) → epoch ≡ before.epoch → IsEpoch before.epoch →
    IsSegments old → MarksBlock old new at epoch answer → (IsTrue answer → ⊥) → MarksAt old new before before at
done_else old new before at epoch true e he h m t = absurd (t refl)
done_else old new before at epoch false e he h m t = record {
  answer = false;
  place = place_done old new before at epoch false e he h m;
  marker = refl;
  layout = ap (λ (x : Segments). x.layout) m.value;
  stands = stand_done old new before at epoch false e he h m;
}

-- a list without one of its numbers
remove : (xs : List ℕ) (x : ℕ) → Contains xs x → (ys : List ℕ) × (length ys + 1 ≡ length xs) × ((y : ℕ) → Contains xs y → y ≢ x → Contains ys y)
remove [] x c = absurd (let lt = c.1 in omega arith)
remove (z ∷ zs) x c = elim (contains_cases z zs x c) [
  | inl e ↦ (zs, omega arith, λ y d ne. elim (contains_cases z zs y d) [ inl same ↦ absurd (ne (sym same ∙ e)) | inr t ↦ t ])
  | inr t ↦
      let r = remove zs x t in (
        z ∷ r.0,
        let l = r.1 in omega arith,
        λ y d ne. elim (contains_cases z zs y d) [
          | inl same ↦
              subst (λ k. Contains (z ∷ r.0) k) same (contains_head z r.0)
          | inr u ↦ contains_tail z r.0 y (r.2 y u ne)
        ],
      )
]

room_case : (old new : Segments) (before : MarkerSeen) (at : ℕ) (answer : Bool) → HasRoomToMark old before →
    MarksPlace old new before.epoch at answer → HasRoomToMark new (noted answer at before)
room_case old new before at true h p =
    let g = p.to_mark.0 refl in
    let r = remove h.places at (h.all at g.0 g.1) in
    record {
      places = r.0;
      all = λ a s fresh. r.2 a (h.all a ((p.snapshot a).0 s) (λ k. fresh ((p.marked a).1 (inl k)))) (λ e. fresh ((p.marked a).1 (inr (refl, e))));
      room = let le = h.room in let l = r.1 in omega arith;
    }
room_case old new before at false h p = record {
  places = h.places;
  all = λ a s fresh. h.all a ((p.snapshot a).0 s) (λ k. fresh ((p.marked a).1 (inl k)));
  room = h.room;
}

count_case : (before : MarkerSeen) (at : ℕ) (answer : Bool) → (IsTrue answer → 0 < before.spare) → HasScanned before (noted answer at before) 0
count_case before at true room = record {
  epoch = refl;
  grows = omega arith;
  pace = omega arith;
  room = (let r = room refl in omega arith);
}
count_case before at false room = record { epoch = refl; grows = omega arith; pace = omega arith; room = refl }

-- one mark leaves room for the rest, and scans nothing
pub place_marked : (old new : Segments) (before later : MarkerSeen) (at : ℕ) → HasRoomToMark old before → MarksAt old new before later at →
    HasMarked old new before later 0
place_marked old new before later at h r = record {
  room = subst (λ (m : MarkerSeen). HasRoomToMark new m) (sym r.marker) (room_case old new before at r.answer h r.place);
  scanned = subst (λ (m : MarkerSeen). HasScanned before m 0) (sym r.marker) (count_case before at r.answer (room_of old new before at r.answer h r.place));
  layout = r.layout;
  stands = r.stands;
}

-- the number of passes of the gate stays
noted_turns : (answer : Bool) (at : ℕ) (m : MarkerSeen) → (noted answer at m).turns ≡ m.turns
noted_turns true at m = refl
noted_turns false at m = refl

pub place_turns : (old new : Segments) (before later : MarkerSeen) (at : ℕ) → MarksAt old new before later at → later.turns ≡ before.turns
place_turns old new before later at r = ap (λ (m : MarkerSeen). m.turns) r.marker ∙ noted_turns r.answer at before

module _ (o : Opening) (m : Marks) (old new : Segments) (before : MarkerSeen) (at : ℕ) where
  abbrev S : World
  S = o.core.snapshot

  right : (answer : Bool) → new.layout ≡ old.layout → IsTied o m old before → MarksPlace old new before.epoch at answer → IsRightSnapshot o new
  right answer layout h p = record {
    layout = layout ∙ h.snapshot.layout;
    apart = h.snapshot.apart;
    sound = λ a s. h.snapshot.sound a ((p.snapshot a).0 s);
    complete = λ q c some_. elim (h.snapshot.complete q c some_) [ inl e ↦ inl e | inr s ↦ inr ((p.snapshot q.at).1 s) ];
  }

  tied_none : (answer : Bool) → new.layout ≡ old.layout → IsTied o m old before → MarksPlace old new before.epoch at answer → (IsTrue answer → ⊥) →
      IsTied o m new (noted answer at before)
  tied_none true layout h p n = absurd (n refl)
  tied_none false layout h p n = record {
    snapshot = right false layout h p;
    shared = h.shared;
    marks = λ q c s. (
      λ k. elim ((p.marked q.at).0 k) [ inl g ↦ (h.marks q c ((p.snapshot q.at).0 s)).0 g | inr t ↦ never t.0 ],
      λ k. (p.marked q.at).1 (inl ((h.marks q c ((p.snapshot q.at).0 s)).1 k)),
    );
    order = h.order;
    queue = h.queue;
    count = h.count;
  }

  tied_one : (name : Name) (answer : Bool) → new.layout ≡ old.layout → IsTied o m old before → MarksPlace old new before.epoch at answer →
      Contains o.places (record { at = at; name = name }) → IsTrue answer →
      IsTied o (record m { marked = m.marked ++ name ∷ []; queue = joined m.order m.queue (entry_of name) }) new (noted answer at before)
  tied_one name false layout h p c t = never t
  tied_one name true layout h p c t = record {
    snapshot = right true layout h p;
    shared = Contains-append_left m.marked (name ∷ []) shared_name h.shared;
    marks = λ q d s. (
      λ k. elim ((p.marked q.at).0 k) [
        | inl g ↦ Contains-append_left m.marked (name ∷ []) q.name ((h.marks q d ((p.snapshot q.at).0 s)).0 g)
        | inr u ↦ let same = h.snapshot.apart.one q (record { at = at; name = name }) d c (inr u.1) in
            subst (λ n. Contains (m.marked ++ name ∷ []) n) (sym (ap (λ (y : Place). y.name) same)) (Contains-push m.marked name)
      ],
      λ k. elim (Contains-push_cases m.marked name q.name k) [
        | inl g ↦ (p.marked q.at).1 (inl ((h.marks q d ((p.snapshot q.at).0 s)).1 g))
        | inr e ↦ (p.marked q.at).1 (inr (refl, ap (λ (y : Place). y.at) (h.snapshot.apart.one q (record { at = at; name = name }) d c (inl (sym e)))))
      ],
    );
    order = h.order;
    queue = rw h.order ((c, refl), h.queue);
    count = let l = length-append m.marked (name ∷ []) in let e = h.count in omega arith;
  }

  tied_case : (answer : Bool) → new.layout ≡ old.layout → IsTied o m old before → MarksPlace old new before.epoch at answer →
      IsTied o (with_name S m (name_at o.places at)) new (noted answer at before)
  tied_case answer layout h p = by_name (name_at o.places at) refl
    where
      by_name : (y : Option Name) → name_at o.places at ≡ y → IsTied o (with_name S m y) new (noted answer at before)
      by_name None e = tied_none answer layout h p (λ t. let g = h.snapshot.sound at (p.to_mark.0 t).0 in let r = some_at o.places at g.0 g.1 in
          let bad : Some r.0 ≡ None = sym r.1 ∙ e in absurd cc)
      by_name (Some name) e = by_test (is_some (node_of S name)) (is_listed name m.marked) refl refl
        where
          here : Contains o.places (record { at = at; name = name })
          here = found_at o.places at name e

          named : IsTrue answer → IsSome (node_of S name)
          named t =
              let g = h.snapshot.sound at (p.to_mark.0 t).0 in
              let same = h.snapshot.apart.one (record { at = at; name = g.0 }) (record { at = at; name = name }) g.1 here (inr refl) in
              subst (λ (y : Place). IsSome (node_of S y.name)) same g.2

          by_test : (a b : Bool) → is_some (node_of S name) ≡ a → is_listed name m.marked ≡ b →
              IsTied o (cond (a && not b) (record m { marked = m.marked ++ name ∷ []; queue = joined m.order m.queue (entry_of name) }) m) new (noted answer at before)
          by_test true false e1 e2 = tied_one name answer layout h p here (elim (h.snapshot.complete (record { at = at; name = name }) here e1) [
            | inl g ↦ absurd (not_listed name m.marked e2 (subst (λ n. Contains m.marked n) (sym g) h.shared))
            | inr s ↦ p.to_mark.1 (s, λ k. not_listed name m.marked e2 ((h.marks (record { at = at; name = name }) here s).0 k))
          ])
          by_test true true e1 e2 = tied_none answer layout h p (λ t. let g = p.to_mark.0 t in
              g.1 ((h.marks (record { at = at; name = name }) here g.0).1 (contains_listed name m.marked e2)))
          by_test false b e1 e2 = tied_none answer layout h p (λ t. let k = named t in let bad : true ≡ false = sym k ∙ e1 in absurd cc)

  -- the marks for the name at an address
  pub tied_at : (later : MarkerSeen) → IsTied o m old before → MarksAt old new before later at → IsTied o (with_name S m (name_at o.places at)) new later
  tied_at later h r = subst (λ (k : MarkerSeen). IsTied o (with_name S m (name_at o.places at)) new k) (sym r.marker) (tied_case r.answer r.layout h r.place)

-- the marks for the name that a word means
pub tied_word : (o : Opening) (m : Marks) (old new : Segments) (before later : MarkerSeen) (w at : ℕ) → w ≡ 2 * at → at ≢ 0 →
    IsTied o m old before → MarksAt old new before later at → IsTied o (with_name o.core.snapshot m (name_meant o.places w)) new later
tied_word o m old new before later w at is some_ h r =
    let a : eqb w 0 ≡ false = ne_eqb w 0 (omega (arith, is, some_)) in
    let b : eqb (w % 2) 0 ≡ true = eq-eqb (w % 2) 0 (omega (arith, is)) in
    let half : w / 2 ≡ at = omega (arith, is) in
    rw (a, b, half) (tied_at o m old new before at later h r)

pub tied_odd : (o : Opening) (m : Marks) (s : Segments) (marker : MarkerSeen) (w : ℕ) → w % 2 ≡ 1 → IsTied o m s marker →
    IsTied o (with_name o.core.snapshot m (name_meant o.places w)) s marker
tied_odd o m s marker w odd h =
    let a : eqb w 0 ≡ false = ne_eqb w 0 (omega (arith, odd)) in
    let b : eqb (w % 2) 0 ≡ false = ne_eqb (w % 2) 0 (omega (arith, odd)) in
    rw (a, b) h
