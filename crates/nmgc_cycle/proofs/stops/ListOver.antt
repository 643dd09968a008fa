-- The list over a promotion: finalised weak pointers leave it, and those that moved and are alive join it.
use Rattle.nmgc_cycle.proofs.Vocabulary.{ℕ, ◌≡◌, ◌≢◌, ◌^◌, ◌<◌, ◌≤◌, ◌⊎◌, List, [], ◌∷◌, Bool, true, false, cond, length, map, refl, sym, ap, subst, ◌∙◌, arith, inl, inr, slice_index, mul-le-mul_right, ◌*◌, ◌+◌, Contains, filter, not, ◌==◌, ◌&&◌, and_parts, length-map, length-filter, count_by-le-length, Name, SHARED_MAKER, Parts, IsAlive, IsBefore, IsInOrder, node_of, is_some_of, contains_map, map_contains, filter_had, filter_keeps, in_order_cons, in_order_first, in_order_rest, header_word, InSegment, NAME_OFFSET, segment_low, Layout, StandsFor, Segments, IsSegments, KeepsMarks, PlacesEach, Moved, new_place, old_place, IsFor, HaveNoted, promoted_by, Place, ListsWeaks, settled_comes, Stopped, IsStopped, IsSettled, young_base, is_block, JoiningLists, JoinersAreNew, HaveMoved, HaveJoinedList, IsAliveAt, weak_header, moved_of, Move, OldWeak, LeavingLists, Weaks, alive_of, is_alive, names_of, place_of, places_of, value_place, recorded_of, finalised_of, Collector, CanJoin, FinalisedAreListed, FinalisedLeft, MovedJoined, is_alive_at, listed_move, moved_weaks, words_in, CanList, HasListed, HasPromoted, StandsStopped, moves_of, young_weaks_of, true_eq, of_places, names_same, names_moved, eq-eqb, ne_eqb}
use Rattle.std.specs.List.{count_by}
use Rattle.nmgc_collector_laws.specs.Worked.{registers_of, queues_of, nurseries_of}

false_ne : (a : ℕ) → not (a == 0) ≡ true → a ≢ 0
false_ne a e is = let t : (a == 0) ≡ true = eq-eqb a 0 is in let bad : not true ≡ true = sym (ap not t) ∙ e in cc

tested : (words : List ℕ) (at : ℕ) → is_alive_at words at ≡ true → IsAliveAt words at
tested words at e =
    let both = and_parts (slice_index words at == header_word weak_header) (not (slice_index words (value_place at) == 0)) e in
    record { header = true_eq (slice_index words at) (header_word weak_header) both.0; value = false_ne (slice_index words (value_place at)) both.1 }

tests : (words : List ℕ) (at : ℕ) → IsAliveAt words at → is_alive_at words at ≡ true
tests words at a =
    let h : (slice_index words at == header_word weak_header) ≡ true = eq-eqb (slice_index words at) (header_word weak_header) a.header in
    let v : (slice_index words (value_place at) == 0) ≡ false = ne_eqb (slice_index words (value_place at)) 0 a.value in
    ap (λ (y : Bool × Bool). y.0 && not y.1) (λ i. (h i, v i))

-- the weak pointers that moved and are alive: no more than moved, in order, and new

pub moved_few : (words : List ℕ) (moves : List Move) → length (moved_weaks words moves) ≤ length moves
moved_few words moves =
    let test : Move → Bool = λ (m : Move). is_alive_at words m.to.0 in
    let all : length (moved_weaks words moves) ≡ length (filter test moves) = length-map (filter test moves) listed_move in
    let counted : length (filter test moves) ≡ count_by test moves = length-filter test moves in
    let most : count_by test moves ≤ length moves = count_by-le-length test moves in
    omega (arith, all, counted, most)

-- each is a moved object
one_moved : (words : List ℕ) (moves : List Move) (weak : OldWeak) → Contains (moved_weaks words moves) weak → (m : Move) × Contains moves m ×
    (listed_move m ≡ weak) × (is_alive_at words m.to.0 ≡ true)
one_moved words moves weak c =
    let test : Move → Bool = λ (m : Move). is_alive_at words m.to.0 in
    let r = map_contains listed_move (filter test moves) weak c in
    let f = filter_had test moves r.0 r.1 in
    (r.0, f.0, sym r.2, f.1)

name_moved : (words : List ℕ) (moves : List Move) (n : Name) → Contains (names_of (moved_weaks words moves)) n → Contains (map (λ (m : Move). m.name) moves) n
name_moved words moves n c =
    let r = map_contains (λ (w : OldWeak). w.weak) (moved_weaks words moves) n c in
    let m = one_moved words moves r.0 r.1 in
    rw (ap (λ (w : OldWeak). w.weak) m.2 ∙
    sym r.2) at (contains_map (λ (x : Move). x.name) moves m.0 m.1)

order_kept : (b : Bool) (m : Move) (kept : List Move) → IsInOrder (names_of (map listed_move kept)) →
    ((n : Name) → Contains (names_of (map listed_move kept)) n → IsBefore m.name n) → IsInOrder (names_of (map listed_move (cond b (m ∷ kept) kept)))
order_kept true m kept h first = in_order_cons m.name (names_of (map listed_move kept)) h first
order_kept false m kept h first = h

pub moved_ordered : (words : List ℕ) (moves : List Move) → IsInOrder (map (λ (m : Move). m.name) moves) → IsInOrder (names_of (moved_weaks words moves))
moved_ordered words [] h = tt
moved_ordered words (m ∷ moves) h =
    order_kept (is_alive_at words m.to.0) m (filter (λ (x : Move). is_alive_at words x.to.0) moves)
    (moved_ordered words moves (in_order_rest m.name (map (λ (x : Move). x.name) moves) h))
    (λ n c. in_order_first m.name (map (λ (x : Move). x.name) moves) h n (name_moved words moves n c))

pub moved_new : (words : List ℕ) (list : List OldWeak) (moves : List Move) → CanJoin words list moves → (one other : OldWeak) →
    Contains (moved_weaks words moves) one → Contains list other → other.weak ≢ one.weak
moved_new words list moves can one other c d =
    let m = one_moved words moves one c in
    λ e. can.new m.0 other m.1 d (e ∙ sym (ap (λ (w : OldWeak). w.weak) m.2))

module _ (old a : Collector) (l : FinalisedLeft old a) where
  -- leaving changes nothing of the heap
  pub stopped_then : (t : Stopped) → StandsStopped t old → StandsStopped t a
  stopped_then t h =
      let words : IsStopped t old.heap.segments (words_in a.heap.words) (nurseries_of old.mutators.items) (registers_of old.mutators.items)
      (queues_of old.mutators.items) (recorded_of old.mutators.items) (young_weaks_of old.mutators.items) =
      rw l.words.0 h in
      rw l.rest words

  pub segments_same : a.heap.segments ≡ old.heap.segments
  segments_same = ap (λ (x : Collector). x.heap.segments) l.rest

module _ (left : LeavingLists) (joining : JoiningLists) (fresh : JoinersAreNew) (old a b new : Collector) (l : FinalisedLeft old a)
    (p : HasPromoted a b) (same : b.heap.weaks ≡ a.heap.weaks) where
  module _ (t : Stopped) (h : StandsStopped t old) (can : CanList t old) where
    -- the list after leaving
    left_listed : ListsWeaks a.heap.segments.layout t.places t.world (places_of a.heap.weaks.list)
    left_listed =
        let then = left old.heap.segments.layout t.later t.places t.began t.world (words_in old.heap.words) old.heap.weaks.list can.began h.world h.represents
        can.listed can.old in
        let kept = subst (λ (list : List OldWeak). ListsWeaks old.heap.segments.layout t.places t.world (places_of list)) (sym l.list) then in
        subst (λ (y : Layout). ListsWeaks y t.places t.world (places_of a.heap.weaks.list)) (ap (λ (s : Collector). s.heap.segments.layout) (sym l.rest)) kept

    settled_there : IsSettled t b.heap.segments (words_in b.heap.words) (registers_of b.mutators.items) (queues_of b.mutators.items) (moves_of b)
    settled_there = p.settled t (stopped_then old a l t h)

    moved_there : (m : Move) → Contains b.heap.promotion.moves m → Contains (moves_of b) (moved_of m)
    moved_there m c = contains_map moved_of b.heap.promotion.moves m c

    -- no moved object is g
    is_other : (m : Moved) → Contains (moves_of b) m → m.name.maker ≢ SHARED_MAKER
    is_other m c =
        let k = settled_there in
        let young = (k.promoted.sound m.name (contains_map (λ (x : Moved). x.name) (moves_of b) m c)).0.0 in
        let high = (h.round.young (old_place m) (k.moved m c)).1 young in
        elim (h.represents.named (old_place m) (k.moved m c)).lies [
          | inl g ↦ let at = g.1 in absurd (omega (arith, at, high))
          | inr own ↦ own.0
        ]

    -- its header and its value word are among the heap's words
    inside : (m : Move) → Contains b.heap.promotion.moves m → value_place m.to.0 < length (words_in b.heap.words)
    inside m c =
        let k = settled_there in
        let moved = moved_there m c in
        let there = settled_comes (young_base b.heap.segments) (moves_of b) t.places (moved_of m) moved in
        let node = is_some_of (node_of t.world m.name) (k.represents.named (new_place (moved_of m)) there).known in
        let low = k.low (moved_of m) moved in
        let o = k.blocks.held (new_place (moved_of m)) node.0 there low (is_other (moved_of m) moved) node.1 in
        let block = is_block b.heap.segments (young_base b.heap.segments) m.to.0 o.0 p.sound refl o.1 in
        let four = block.four in
        let below = block.below in
        let total = k.represents.total in
        omega (arith, four, below, total)

    pub can_join : length b.heap.promotion.moves < 2 ^ 32 → CanJoin (words_in b.heap.words) b.heap.weaks.list b.heap.promotion.moves
    can_join few = record {
      inside = inside;
      ordered = subst IsInOrder (names_moved b.heap.promotion.moves) settled_there.promoted.ordered;
      new = λ m other c d.
          let d_then : Contains a.heap.weaks.list other = rw (ap (λ (w : Weaks). w.list) same) at d in
          fresh t a.heap.segments b.heap.segments (words_in a.heap.words) (words_in b.heap.words) (nurseries_of a.mutators.items)
          (registers_of a.mutators.items)
          (registers_of b.mutators.items) (queues_of a.mutators.items) (queues_of b.mutators.items) (recorded_of a.mutators.items)
          (young_weaks_of a.mutators.items) (moves_of b) (places_of a.heap.weaks.list)
          (stopped_then old a l t h) settled_there left_listed (moved_of m) (place_of other) (moved_there m c)
          (contains_map place_of a.heap.weaks.list other d_then);
      few = few;
    }

  module _ (j : MovedJoined b new) where
    old_list : (weak : OldWeak) → Contains b.heap.weaks.list weak → Contains a.heap.weaks.list weak
    old_list weak c = subst (λ (w : Weaks). Contains w.list weak) same c

    -- a weak pointer that joined moved, and is alive by its words
    joiner : (weak : OldWeak) → Contains (moved_weaks (words_in b.heap.words) b.heap.promotion.moves) weak → (m : Move) × Contains b.heap.promotion.moves m ×
        (listed_move m ≡ weak) × IsAliveAt (words_in b.heap.words) m.to.0
    joiner weak c =
        let m = one_moved (words_in b.heap.words) b.heap.promotion.moves weak c in
        (m.0, m.1, m.2, tested (words_in b.heap.words) m.0.to.0 m.3)

    came_from : (weak : OldWeak) → Contains new.heap.weaks.list weak → Contains a.heap.weaks.list weak ⊎
        Contains (moved_weaks (words_in b.heap.words) b.heap.promotion.moves) weak
    came_from weak c = elim ((j.joins.list weak).0 c) [ inl was ↦ inl (old_list weak was) | inr more ↦ inr more ]

    -- so the list is joined
    joined_list : HaveJoinedList (words_in b.heap.words) (moves_of b) (places_of a.heap.weaks.list) (places_of new.heap.weaks.list)
    joined_list = record {
      ordered = subst IsInOrder (sym (names_same new.heap.weaks.list)) j.joins.ordered;
      from = λ q c.
          let x = of_places new.heap.weaks.list q c in
          elim (came_from x.0 x.1) [
            | inl was ↦ inl (subst (λ (y : Place). Contains (places_of a.heap.weaks.list) y) x.2 (contains_map place_of a.heap.weaks.list x.0 was))
            | inr more ↦ let m = joiner x.0 more in inr (
              moved_of m.0,
              contains_map moved_of b.heap.promotion.moves m.0 m.1,
              sym x.2 ∙ ap place_of (sym m.2),
              m.3,
            )
          ];
      old_stay = λ q c.
          let x = of_places a.heap.weaks.list q c in
          let in_b : Contains b.heap.weaks.list x.0 = subst (λ (w : Weaks). Contains w.list x.0) (sym same) x.1 in
          rw x.2 at (contains_map place_of new.heap.weaks.list x.0 ((j.joins.list x.0).1 (inl in_b)));
      new_join = λ m c alive.
          let x = map_contains moved_of b.heap.promotion.moves m c in
          let at : IsAliveAt (words_in b.heap.words) x.0.to.0 = subst (λ (y : Moved). IsAliveAt (words_in b.heap.words) y.to) x.2 alive in
          let found = contains_map listed_move (filter (λ (z : Move).
          is_alive_at (words_in b.heap.words) z.to.0) b.heap.promotion.moves) x.0 (filter_keeps (λ (z : Move).
          is_alive_at (words_in b.heap.words) z.to.0) b.heap.promotion.moves x.0 x.1 (tests (words_in b.heap.words) x.0.to.0 at)) in
          rw x.2 (contains_map place_of new.heap.weaks.list (listed_move x.0) ((j.joins.list (listed_move x.0)).1 (inr found)));
    }

    -- the whole collector after the joining
    new_is : new ≡ record b { heap = record b.heap { words = new.heap.words; weaks = new.heap.weaks } }
    new_is = j.rest

    same_moves : moves_of new ≡ moves_of b
    same_moves = ap moves_of new_is

    pub listed : HasListed old new
    listed = record {
      from = λ weak c. elim (came_from weak c) [
        | inl was ↦ inl (filter_had (is_alive (words_in old.heap.words)) old.heap.weaks.list weak
            (rw l.list at was)).0
        | inr more ↦ let m = joiner weak more in inr (
          moved_of m.0,
          subst (λ (list : List Moved). Contains list (moved_of m.0)) (sym same_moves) (contains_map moved_of b.heap.promotion.moves m.0 m.1),
          ap (λ (w : OldWeak). w.weak) (sym m.2),
        )
      ];
      lists = λ t h can.
          let then = joining t a.heap.segments b.heap.segments (words_in a.heap.words) (words_in b.heap.words) (nurseries_of a.mutators.items)
          (registers_of a.mutators.items) (registers_of b.mutators.items) (queues_of a.mutators.items) (queues_of b.mutators.items)
          (recorded_of a.mutators.items) (young_weaks_of a.mutators.items) (moves_of b) (places_of a.heap.weaks.list)
          (places_of new.heap.weaks.list) (stopped_then old a l t h) (settled_there t h can) p.layout p.copied (left_listed t h can) joined_list in
          rw new_is then;
      deaths = j.deaths ∙ ap (λ (w : Weaks). w.deaths) same ∙ l.deaths;
    }

    -- and the promotion is the whole step's
    pub promoted : HasPromoted old new
    promoted = record {
      rest = new_is ∙ ap (λ (x : Collector). record x { heap = record x.heap { words = new.heap.words; weaks = new.heap.weaks } }) p.rest ∙
          ap (λ (x : Collector). record x { heap = record b.heap { words = new.heap.words; weaks = new.heap.weaks }; mutators = b.mutators }) l.rest
          ∙ sym (ap (λ (x : Collector). record old { heap = record x.heap { words = new.heap.words; weaks = new.heap.weaks }; mutators = x.mutators }) new_is);
      has_words = j.words.1;
      noted = subst (λ (y : Collector × Collector). HaveNoted (moves_of y.1) y.0.heap.names y.1.heap.names) (λ i. (l.rest i, sym new_is i)) p.noted;
      forward = p.forward;
      held = ap (λ (x : Collector). x.mutators.items) new_is ∙ p.held ∙
          ap (λ (x : Collector). map (promoted_by p.forward) x.mutators.items) l.rest;
      settled = λ t h. subst (λ (y : Collector × List ℕ).
          IsSettled t y.0.heap.segments y.1 (registers_of y.0.mutators.items) (queues_of y.0.mutators.items) (moves_of y.0)) (λ i. (
            sym new_is i,
            sym j.words.0 i,
          )) (p.settled t (stopped_then old a l t h));
      places = λ t h x shown.
          let shown_then : StandsFor a.heap.segments (words_in a.heap.words) x =
          subst (λ (y : Segments × List ℕ). StandsFor y.0 y.1 x) (λ i. (sym (segments_same old a l) i, sym l.words.0 i)) shown in
          let r = p.places t (stopped_then old a l t h) x shown_then in (
            r.0,
            subst (λ (y : Collector × Collector). PlacesEach y.0.heap.segments.layout t.world x (map (λ (m : Moved).
                m.name) (moves_of y.1)) r.0) (λ i. (l.rest i, sym new_is i)) r.1,
            subst (λ (y : Collector × List ℕ). StandsFor y.0.heap.segments y.1 r.0) (λ i. (sym new_is i, sym j.words.0 i)) r.2,
          );
      sound = subst (λ (x : Collector). IsSegments x.heap.segments) (sym new_is) p.sound;
      marks = subst (λ (y : Collector × Collector). KeepsMarks y.0.heap.segments y.1.heap.segments) (λ i. (l.rest i, sym new_is i)) p.marks;
      layout = ap (λ (x : Collector). x.heap.segments.layout) new_is ∙ p.layout ∙ ap (λ (x : Collector). x.heap.segments.layout) l.rest;
      lists = subst (λ (y : Collector × Collector). IsFor y.0.heap.segments.layout y.1.heap.promotion) (λ i. (l.rest i, sym new_is i)) p.lists;
      copied = subst (λ (y : Collector × Collector × List ℕ × List ℕ). HaveMoved (young_base y.0.heap.segments) (moves_of y.1) y.2 y.3) (λ i. (
        l.rest i,
        sym new_is i,
        l.words.0 i,
        sym j.words.0 i,
      )) p.copied;
    }

-- a weak pointer that is dead by its value word isn't alive after the round, so it is reported
module _ (leaving : LeavingLists) (t : Stopped) (c : Collector) (h : StandsStopped t c) (can : CanList t c) where
  abbrev held : List ℕ
  held = words_in c.heap.words

  left_then : ListsWeaks c.heap.segments.layout t.places t.world (places_of (alive_of held c.heap.weaks.list))
  left_then = leaving c.heap.segments.layout t.later t.places t.began t.world held c.heap.weaks.list can.began h.world h.represents can.listed can.old

  dead_gone : (weak : OldWeak) → Contains c.heap.weaks.list weak → slice_index held (value_place weak.at.0) ≡ 0 → (parts : Parts) →
      IsAlive t.world weak.weak parts → ⊥
  dead_gone weak d zero_ parts alive =
      let l = can.listed.sound (place_of weak) (contains_map place_of c.heap.weaks.list weak d) in
      let there = left_then.complete (place_of weak) (l.0, (parts, alive), l.2) in
      let x = of_places (alive_of held c.heap.weaks.list) (place_of weak) there in
      let f = filter_had (is_alive held) c.heap.weaks.list x.0 x.1 in
      let at : x.0.at.0 ≡ weak.at.0 = ap (λ (p : Place). p.at) x.2 in
      false_ne (slice_index held (value_place x.0.at.0)) f.1 (ap (λ k. slice_index held (value_place k)) at ∙ zero_)

  -- an address in a segment is below the nurseries
  in_segment : (p : Place) → ((segment : ℕ) × InSegment c.heap.segments.layout segment p.at) → p.at < young_base c.heap.segments
  in_segment p s = segment_low c.heap.segments.layout s.0 p.at s.1

  -- a nursery has room for the largest object, and so for a weak pointer
  total_above : (at : ℕ) → at < young_base c.heap.segments → value_place at < length held
  total_above at low =
      let layout = h.segments.layout in
      let one : 1 * c.heap.segments.layout.nursery ≤ c.heap.segments.layout.mutators * c.heap.segments.layout.nursery = mul-le-mul_right c.heap.segments.layout.nursery layout.mutators.0 in
      let least = layout.words.least in
      let nursery = layout.nursery in
      let total = h.represents.total in
      omega (arith, one, least, nursery, total, low)

  pub finalised_are_listed : FinalisedAreListed held c.heap.weaks.list (finalised_of c.mutators.items)
  finalised_are_listed = record {
    inside = λ at there. total_above at (can.reported.low at there);
    reported = λ weak d zero_.
        let l = can.listed.sound (place_of weak) (contains_map place_of c.heap.weaks.list weak d) in
        can.reported.all (place_of weak) l.1.0 l.0 (in_segment (place_of weak) l.2) l.1.1 (dead_gone weak d zero_ l.1.0);
    named = λ at weak d same.
        let l = can.listed.sound (place_of weak) (contains_map place_of c.heap.weaks.list weak d) in
        let n = h.represents.named (place_of weak) l.0 in
        (n.valid, ap (λ k. slice_index held (k + NAME_OFFSET)) (sym same) ∙ n.name);
  }
