-- A heap at a stop can be promoted, and the passes settle it.
use Rattle.nmgc_minor.proofs.Vocabulary.{RepresentsRoots, ◌≡◌, ◌<◌, ◌⊎◌, ℕ, List, map, inl, inr, refl, sym, ap, subst, arith, Contains, Name, Lists, contains_tail, map_in, map_from, header_word, name_word, IsHeader, IsName, nursery_place, Header, Layout, Nursery, Segments, IsSegments, AllocState, StandsFor, KeepsReserve, begins, Place, NoNode, Moved, StillSpoken, old_place, settled, roots_moved, AreEmpty, AreBlocks, IsPromoted, PlacesEach, Stopped, IsStopped, IsSettled, earlier_of, young_base, Move, Inputs, HasInputs, forward_word, moved_of, CanPromoteWith, Promotes, names_twice, slice_index}
use Rattle.nmgc_minor.proofs.{RootLaws.has_inputs, Allows.recorded_low, Allows.world_allows, PromotedLaws.found_promoted, PromotedLaws.promoted_found, Final.taken, Final.moves_in_order, Final.promotes_moves, Final.promotes_represents, Final.promotes_blocks, Final.promotes_fields, AllocationLaws.stands_final, AllocationLaws.places_each}

module _ (t : Stopped) (s : Segments) (old : List ℕ) (nurseries : List Nursery) (inputs : Inputs)
    (differ : (a b : Header) → IsHeader a → IsHeader b → header_word a ≡ header_word b → a ≡ b)
    (names : (a b : Name) → IsName a → IsName b → name_word a ≡ name_word b → a ≡ b)
    (h : IsStopped t s old nurseries inputs.registers inputs.queues inputs.recorded inputs.weaks) where
  spoken : StillSpoken (young_base s) t.later (earlier_of t) t.places t.world
  spoken = record {
    fewer = λ e c. contains_tail t.began t.later e c;
    past = λ e c. h.round.past e (contains_tail t.began t.later e c);
    outside = h.round.outside;
  }

  has : HasInputs (young_base s) (earlier_of t) t.places t.world inputs
  has = has_inputs t.places t.world inputs.registers inputs.queues t.serials h.world h.roots (young_base s) (earlier_of t) inputs refl refl h.left

  reserve : KeepsReserve s.layout s.segments 0 ⊎ AreEmpty nurseries
  reserve = elim h.reserve [
    | inl enough ↦ inl (begins s.layout h.segments.layout.words s.segments enough)
    | inr none ↦ inr none
  ]

  pub stop_allows : CanPromoteWith s old nurseries inputs
  stop_allows = world_allows s.layout (young_base s) t.later (earlier_of t) t.places t.world old inputs s nurseries differ h.world spoken refl
      h.represents has h.segments refl h.used reserve

  module _ (s' : Segments) (new : List ℕ) (moves : List Move) (table : List ℕ) (sound : IsSegments s') (same : s'.layout ≡ s.layout)
      (p : Promotes (young_base s) old new s s' moves inputs table) where
    taken_at : (d : Moved) → Contains (map moved_of moves) d → Contains t.places (old_place d)
    taken_at d c = (taken s.layout (young_base s) t.later (earlier_of t) t.places t.world old new inputs s s' moves table differ names h.world
        spoken refl h.represents has sound same h.blocks p d c).0

    -- a move has the promoted name at its address
    move_promoted : (m : Move) → Contains moves m → IsPromoted t.began t.world m.name
    move_promoted m c =
        let f = found_promoted s.layout (young_base s) t.later t.began t.places t.world old inputs t.serials differ h.world spoken refl h.represents
        has h.round m.from.0 (p.found m c) in
        let e = h.represents.one (record { at = m.from.0; name = f.0 }) (record {
          at = m.from.0;
          name = m.name;
        }) f.1 (taken_at (moved_of m) (map_in moved_of moves m c)) (inr refl) in
        subst (λ (q : Place). IsPromoted t.began t.world q.name) e f.2

    promoted_move : (n : Name) → IsPromoted t.began t.world n → (m : Move) × Contains moves m × (m.name ≡ n)
    promoted_move n q =
        let f = promoted_found s.layout (young_base s) t.later t.began t.places t.world old inputs t.serials differ h.world spoken refl h.represents
        has h.round n q in
        let d = p.all f.0 f.2 in
        let there = taken_at (moved_of d.0) (map_in moved_of moves d.0 d.1) in
        let e = h.represents.one (record { at = d.0.from.0; name = d.0.name }) (record { at = f.0; name = n }) there f.1 (inr d.2) in
        (d.0, d.1, ap (λ (x : Place). x.name) e)

    lists : Lists (IsPromoted t.began t.world) (map (λ (m : Move). m.name) moves)
    lists = record {
      ordered = moves_in_order s.layout (young_base s) t.later (earlier_of t) t.places t.world old new inputs s s' moves table differ names h.world
          spoken refl h.represents has sound same h.blocks p h.order;
      sound = λ n c.
          let x = map_from (λ (m : Move). m.name) moves n c in
          subst (λ (k : Name). IsPromoted t.began t.world k) (sym x.2) (move_promoted x.0 x.1);
      complete = λ n q.
          let x = promoted_move n q in
          subst (λ (k : Name). Contains (map (λ (m : Move). m.name) moves) k) x.2 (map_in (λ (m : Move). m.name) moves x.0 x.1);
    }

    pub stop_settles : IsSettled t s' new (map (forward_word table (young_base s)) inputs.registers)
        (map (map (forward_word table (young_base s))) inputs.queues) (map moved_of moves)
    stop_settles =
        let base_same : young_base s ≡ young_base s' = ap (λ (l : Layout). nursery_place l 0) (sym same) in
        let moved = promotes_moves s.layout (young_base s) t.later (earlier_of t) t.places t.world old new inputs s s' moves table differ names
        h.world spoken refl h.represents has sound same h.blocks p in
        let represents = promotes_represents s.layout (young_base s) t.later (earlier_of t) t.places t.world old new inputs s s' moves table differ
        names h.world spoken refl h.represents has sound same h.blocks p in
        let blocks = promotes_blocks s.layout (young_base s) t.later (earlier_of t) t.places t.world old new inputs s s' moves table differ names
        h.world spoken refl h.represents has sound same h.blocks p in
        let roots = roots_moved s.layout (young_base s) t.later (earlier_of t) NoNode t.places t.world (map moved_of moves)
        (forward_word table (young_base s)) old new inputs.registers inputs.queues t.serials h.world spoken refl h.represents moved h.roots in
        record {
          promoted = subst (λ (xs : List Name). Lists (IsPromoted t.began t.world) xs) (sym (names_twice moves)) lists;
          moved = taken_at;
          low = λ d c. subst (λ (b : ℕ). d.to < b) base_same (moved.taken d c).2;
          represents = rw same represents;
          roots = subst (λ (b : ℕ).
              RepresentsRoots (settled b (map moved_of moves) t.places) t.world (map (forward_word table (young_base s)) inputs.registers)
              (map (map (forward_word table (young_base s))) inputs.queues) t.serials) base_same roots;
          blocks = subst (λ (b : ℕ). AreBlocks s' b (settled b (map moved_of moves) t.places) t.world) base_same blocks;
        }

    -- placing the promoted names one by one leads to the allocation state afterwards
    pub stop_places : (a : AllocState) → StandsFor s old a → (b : AllocState) ×
        PlacesEach s.layout t.world a (map (λ (m : Moved). m.name) (map moved_of moves)) b × StandsFor s' new b
    stop_places a st =
        let total = h.represents.total in
        let q = p.stands old a (omega (arith, total)) st in
        let each = places_each s.layout (young_base s) t.later (earlier_of t) t.places t.world old new inputs s s' moves table differ names h.world
        spoken refl h.represents has sound same h.blocks p moves (λ x c. c) a q.0 q.1 in (
          q.0,
          subst (λ (xs : List Name). PlacesEach s.layout t.world a xs q.0) (sym (names_twice moves)) each,
          stands_final s.layout (young_base s) t.later (earlier_of t) t.places t.world old new inputs s s' moves table differ names h.world spoken
              refl h.represents has sound same h.blocks p q.0 q.2,
        )

    -- each recorded field is forwarded
    pub stop_fields : (at : ℕ) → Contains inputs.recorded at → slice_index new at ≡ forward_word table (young_base s) (slice_index old at)
    stop_fields at c =
        let low = recorded_low s.layout (young_base s) t.later (earlier_of t) t.places t.world old inputs s nurseries differ h.world spoken refl
        h.represents has h.segments refl h.used reserve at c in
        promotes_fields s.layout (young_base s) t.later (earlier_of t) t.places t.world old new inputs s s' moves table differ names h.world spoken
        refl h.represents has sound same h.blocks p at low c
