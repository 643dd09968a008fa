-- Places of blocks, and the tie by blocks.
use Rattle.nmgc_collector_laws.proofs.Vocabulary.{◌≡◌, ◌≢◌, inl, inr, ℕ, ◌<◌, ◌≤◌, ◌%◌, Bool, true, false, cond, List, [], ◌∷◌, map, length, refl, sym, ap, subst, ◌∙◌, arith, None, Contains, IsSome, All, get_or-eq_default, cases_lt, All-nil, All-cons, All-head, All-tail, Name, World, node_of, shared_name, block_size, least_block, Segment, InSnapshot, IsMarked, mark_of, free_segment, Free, Entry, State, nth, Segments, HasNumber, block_place, IsBlockAt, AllocState, LiesIn, cells, name_in, Cells, lies_in, same_block, snapshot_within, inside, stands_sound, used_exists, Place, shared_place, Opening, marks_of, Cycle, epoch_of, AreAt, IsUnread, IsTiedByBlocks, IsRightByBlocks, MarkerSeen, AreOfBlocks, TiesAgree, AreQueued, ◌==◌}
use Rattle.nmgc_mark.specs.Tie.{IsTied}

to_queued : (places : List Place) (ats : List ℕ) (entries : List Entry) → AreAt places ats (map (λ (e : Entry). e.name) entries) →
    All IsUnread entries → AreQueued places ats entries
to_queued places [] [] h f = tt
to_queued places [] (e ∷ es) h f = absurd h
to_queued places (at ∷ ats) [] h f = absurd h
to_queued places (at ∷ ats) (e ∷ es) h f = ((h.0, All-head IsUnread e es f), to_queued places ats es h.1 (All-tail IsUnread e es f))

from_queued : (places : List Place) (ats : List ℕ) (entries : List Entry) → AreQueued places ats entries →
    AreAt places ats (map (λ (e : Entry). e.name) entries) × All IsUnread entries
from_queued places [] [] h = (tt, All-nil IsUnread)
from_queued places [] (e ∷ es) h = absurd h
from_queued places (at ∷ ats) [] h = absurd h
from_queued places (at ∷ ats) (e ∷ es) h = let r = from_queued places ats es h.1 in ((h.0.0, r.0), All-cons IsUnread e es h.0.1 r.1)

some_epoch : (number : ℕ) → 1 ≤ epoch_of number
some_epoch number = by ((number % 2) == 0)
  where
    by : (b : Bool) → 1 ≤ cond b 2 1
    by true = omega arith
    by false = omega arith

module _ (o : Opening) (c : Cycle) (s : Segments) (words : List ℕ) (a : AllocState) (core : State) (k : AreOfBlocks o c s words a core) where
  used : (n b : ℕ) (name : Name) → LiesIn a n b name → (cells a n).state ≡ Free → ⊥
  used n b name lies free =
      let none : name_in (cells a n) b ≡ None = ap (λ (x : Cells). name_in x b) ((stands_sound s words a k.sound k.stands).free n free) in
      absurd cc

  -- the block of a name begins at its place
  lies_at : (n b : ℕ) (name : Name) → LiesIn a n b name → IsBlockAt s n b (block_place o.layout n (cells a n).class b)
  lies_at n b name lies =
      let low = used_exists a n (used n b name lies) in
      let there : HasNumber s n = let e = k.stands.count in omega arith in
      let shows = k.stands.shows n there in
      let class : (cells a n).class ≡ (nth s.segments n).class = shows.class (used n b name lies) in
      record {
        exists = there;
        used = λ e. used n b name lies (shows.state ∙ e);
        within = inside s words n (cells a n) b name shows lies;
        place = (λ i. block_place (sym k.layout i) n (class i) b);
      }

  -- a block of the snapshot has an address
  snapshot_at : (n b : ℕ) → InSnapshot (nth s.segments n) b → IsBlockAt s n b (block_place s.layout n (nth s.segments n).class b)
  snapshot_at n b snap = elim (cases_lt n (length s.segments)) [
    | inl there ↦ let w = snapshot_within (nth s.segments n) b (k.sound.members n there).sound snap in
        record { exists = there; used = w.0; within = w.1; place = refl }
    | inr past ↦
        let none : nth s.segments n ≡ free_segment 0 = get_or-eq_default s.segments (free_segment 0) past in
        absurd (elim (subst (λ (x : Segment). InSnapshot x b) none snap) [ inl lt ↦ omega arith | inr ne ↦ ne refl ])
  ]

  -- no block begins at the address of g
  above : (n b at : ℕ) → IsBlockAt s n b at → 32 ≤ at
  above n b at g =
      let lies = lies_in s n b at at k.sound g (omega arith)
      (let pos : 0 < block_size (nth s.segments n).class = omega (arith, least_block (nth s.segments n).class) in omega arith) in
      let from = lies.from in
      omega arith

  not_shared : (n b : ℕ) (name : Name) → LiesIn a n b name → name ≡ shared_name → ⊥
  not_shared n b name lies e =
      let at : ℕ = block_place o.layout n (cells a n).class b in
      let same = k.apart.one shared_place (record { at = at; name = name }) k.shared (k.blocks n b name lies) (inl (sym e)) in
      let is : 1 ≡ at = ap (λ (p : Place). p.at) same in
      let up = above n b at (lies_at n b name lies) in
      omega arith

  in_cycle : (name : Name) → IsSome (node_of c.snapshot name) → IsSome (node_of o.core.snapshot name)
  in_cycle name h = subst (λ (w : World). IsSome (node_of w name)) k.cycle h

  of_cycle : (name : Name) → IsSome (node_of o.core.snapshot name) → IsSome (node_of c.snapshot name)
  of_cycle name h = subst (λ (w : World). IsSome (node_of w name)) (sym k.cycle) h

  module _ (marker : MarkerSeen) where
    to_places : IsTiedByBlocks c a s o.places marker core → (marker.epoch ≡ epoch_of c.number) × IsTied o (marks_of core) s marker
    to_places h = (
      h.epoch,
      record {
        snapshot = record {
          layout = k.layout;
          apart = k.apart;
          sound = λ at g.
              let r = (h.snapshot g.0 g.1).0 g.3 in
              let is : block_place o.layout g.0 (cells a g.0).class g.1 ≡ at = (lies_at g.0 g.1 r.0 r.1).place ∙ sym g.2.place in
              (r.0, subst (λ x. Contains o.places (record { at = x; name = r.0 })) is (k.blocks g.0 g.1 r.0 r.1), in_cycle r.0 r.2);
          complete = λ p d some_. elim (k.named p d some_) [
            | inl e ↦ inl (ap (λ (q : Place). q.name) e)
            | inr x ↦ inr (
              x.number,
              x.block,
              subst (λ y. IsBlockAt s x.number x.block y) (sym x.at) (lies_at x.number x.block p.name x.lies),
              (h.snapshot x.number x.block).1 (p.name, x.lies, of_cycle p.name some_),
            )
          ];
        };
        shared = k.shared_marked;
        marks = λ p d g.
            let r = (h.snapshot g.0 g.1).0 g.3 in
            let is : block_place o.layout g.0 (cells a g.0).class g.1 ≡ p.at = (lies_at g.0 g.1 r.0 r.1).place ∙ sym g.2.place in
            let same = k.apart.one (record { at = p.at; name = r.0 }) p (rw is at (k.blocks g.0 g.1 r.0 r.1)) d (inr refl) in
            let name : r.0 ≡ p.name = ap (λ (q : Place). q.name) same in
            let m = h.marks g.0 g.1 r.0 r.1 in (
              λ t.
                  let one = same_block s g.0 g.1 t.0 t.1 p.at k.sound g.2 t.2 in
                  rw name at (m.0 (rw one.0 (subst (λ x. IsMarked (nth s.segments t.0) marker.epoch x) (sym one.1) t.3))),
              λ t. (g.0, g.1, g.2, m.1 (subst (λ x. Contains core.marked x) (sym name) t)),
            );
        order = h.order;
        queue = to_queued o.places marker.queue core.queue h.queue h.fresh;
        count = h.count;
      },
    )

    right_by_blocks : IsTied o (marks_of core) s marker → IsRightByBlocks c a s
    right_by_blocks t n b = (
      λ snap.
          let at : ℕ = block_place s.layout n (nth s.segments n).class b in
          let g = snapshot_at n b snap in
          let r = t.snapshot.sound at (n, b, g, snap) in
          elim (k.named (record { at = at; name = r.0 }) r.1 r.2) [
            | inl e ↦ absurd (let is : at ≡ 1 = ap (λ (p : Place). p.at) e in let up = above n b at g in omega arith)
            | inr x ↦
                let one = same_block s x.number x.block n b at k.sound (rw x.at (lies_at x.number x.block r.0 x.lies)) g in
                (r.0, subst (λ y. LiesIn a y b r.0) one.0 (subst (λ y. LiesIn a x.number y r.0) one.1 x.lies), of_cycle r.0 r.2)
          ],
      λ q.
          let at : ℕ = block_place o.layout n (cells a n).class b in
          elim (t.snapshot.complete (record { at = at; name = q.0 }) (k.blocks n b q.0 q.1) (in_cycle q.0 q.2)) [
            | inl e ↦ absurd (not_shared n b q.0 q.1 e)
            | inr g ↦
                let one = same_block s g.0 g.1 n b at k.sound g.2 (lies_at n b q.0 q.1) in
                subst (λ y. InSnapshot (nth s.segments y) b) one.0 (subst (λ y. InSnapshot (nth s.segments g.0) y) one.1 g.3)
          ],
    )

    to_blocks : (marker.epoch ≡ epoch_of c.number) × IsTied o (marks_of core) s marker → IsTiedByBlocks c a s o.places marker core
    to_blocks (epoch, t) = record {
      epoch = epoch;
      snapshot = right_by_blocks t;
      marks = λ n b name lies.
          let at : ℕ = block_place o.layout n (cells a n).class b in
          let p : Place = record { at = at; name = name } in
          let g = lies_at n b name lies in (
            λ marked.
                let some_ : mark_of (nth s.segments n) b ≢ 0 = λ z. let up = some_epoch c.number in
                let m : mark_of (nth s.segments n) b ≡ marker.epoch = marked in omega arith in
                (t.marks p (k.blocks n b name lies) (n, b, g, inr some_)).0 (n, b, g, marked),
            λ listed.
                let snap = (right_by_blocks t n b).1 (name, lies, of_cycle name (k.marked name listed)) in
                let m = (t.marks p (k.blocks n b name lies) (n, b, g, snap)).1 listed in
                let one = same_block s m.0 m.1 n b at k.sound m.2 g in
                subst (λ y. IsMarked (nth s.segments y) marker.epoch b) one.0 (subst (λ y. IsMarked (nth s.segments m.0) marker.epoch y) one.1 m.3),
          );
      order = t.order;
      queue = (from_queued o.places marker.queue core.queue t.queue).0;
      fresh = (from_queued o.places marker.queue core.queue t.queue).1;
      count = t.count;
    }

pub ties_agree : TiesAgree
ties_agree o c s words a core marker k = (to_places o c s words a core k marker, to_blocks o c s words a core k marker)
