-- A round leaves all that a promotion needs.
use Rattle.nmgc_collector_laws.proofs.Vocabulary.{◌≡◌, ◌↔◌, inl, inr, ℕ, ◌+◌, ◌<◌, ◌≤◌, Bool, true, false, cond, List, [], ◌∷◌, map, sym, ap, subst, arith, None, Contains, IsSome, Contains-append_left, Name, Ref, World, IsWorld, node_of, Row, RefersTo, contains_head, contains_tail, contains_cases, is_some_of, nothing_in, one_is, HasStrongField, place_of_field, absent, old_refers_to_young, old_weaks_stay, nursery_place, Layout, Header, HEADER_WORDS, Segments, size_of, IsTracked, Place, Represents, NoNode, IsEarlier, AreEarlier, remembered, world_is_earlier, past_tracked, AreUsed, LieInOrder, AreBlocks, Stopped, IsRoundOf, young_base, rows_in, Opening, Seen, Object, place_of, earlier, now, CanOpen, IsFinished, places_then, IsKeptThen, Mutator, nurseries_of, RootsAreLeft, BirthsAreInOrder, RoundIsRemembered, RoundIsStopped, stop_after, EventsAreHistory, can_replay, still_world, still_earlier, opened_below, place_cases}

-- the earlier world while a cycle marks is the snapshot
one_earlier : (marking : Bool) (snapshot e : World) → Contains (cond marking (snapshot ∷ []) []) e → snapshot ≡ e
one_earlier true snapshot e c = one_is snapshot e c
one_earlier false snapshot e c = absurd (nothing_in e c)

module _ (history : EventsAreHistory) (o : Opening) (before words : List ℕ) (v : Seen) (mutators : List Mutator) (can : CanOpen o before)
    (past : AreEarlier (earlier o) o.core.world) (h : IsFinished o words v) where
  low : (p : Place) → Contains o.places p → p.at < nursery_place o.layout 0
  low = opened_below o before can

  abbrev W : World
  W = (now o h.events).world

  abbrev places : List Place
  places = places_then o h.born

  abbrev t : Stopped
  t = stop_after o words v h mutators

  abbrev rows : List Row
  rows = rows_in h.events

  -- new objects lie in the nurseries
  born_up : (x : Object) → Contains h.born x → nursery_place o.layout 0 ≤ x.at
  born_up x c = let from = (h.new x c).from in omega arith

  pub world : IsWorld W
  world = still_world o.core h.events h.legal can.world

  began_earlier : IsEarlier o.core.world W
  began_earlier = still_earlier o.core.world o.core h.events h.legal can.world (world_is_earlier o.core.world can.world)

  all_past : (e : World) → Contains (o.core.world ∷ earlier o) e → IsEarlier e W
  all_past e c = elim (contains_cases o.core.world (earlier o) e c) [
    | inl same ↦ subst (λ (x : World). IsEarlier x W) same began_earlier
    | inr d ↦ still_earlier e o.core h.events h.legal can.world (past e d)
  ]

  -- the snapshot has none of the names that were made since
  outside : (e : World) (p : Place) → Contains (earlier o) e → Contains places p → IsSome (node_of e p.name) → p.at < nursery_place o.layout 0
  outside e p in_ c known = elim (place_cases o h.born p c) [
    | inl d ↦ low p d
    | inr (x, d, is) ↦
        let same : o.core.snapshot ≡ e = one_earlier o.marking o.core.snapshot e in_ in
        absurd (absent (node_of o.core.snapshot x.name) (h.new x d).no_snapshot (rw same (subst (λ (q : Place). IsSome (node_of e q.name)) is known)))
  ]

  young : (p : Place) → Contains places p → (nursery_place o.layout 0 ≤ p.at) ↔ (node_of o.core.world p.name ≡ None)
  young p c = elim (place_cases o h.born p c) [
    | inl d ↦ (λ up. absurd (let lt = low p d in omega arith), λ none. absurd (absent (node_of o.core.world p.name) none (can.represents.named p d).known))
    | inr (x, d, is) ↦ (
      λ up. subst (λ (q : Place). node_of o.core.world q.name ≡ None) (sym is) (h.new x d).unknown,
      λ none. subst (λ (q : Place). nursery_place o.layout 0 ≤ q.at) (sym is) (born_up x d),
    )
  ]

  -- an older object that refers to a new object was reached by the command that stored it
  changed : (holder name : Name) → IsSome (node_of o.core.world holder) → node_of o.core.world name ≡ None → RefersTo W holder name →
      IsTracked W (o.core.world ∷ earlier o) holder
  changed holder name there new refers =
      let at = place_of_field refers.0 (Ref name) refers.2 in
      let stands : HasStrongField W holder at.0 (Ref name) = record { node = refers.0; node_is = refers.1; field = at.1 } in
      let stored = old_refers_to_young o.core.world rows can.world (can_replay o.core h.events h.legal) holder name at.0 there (λ known.
      absent (node_of o.core.world name) new known) (rw (history o.core h.events h.legal).1 at stands) in
      past_tracked W (o.core.world ∷ earlier o) o.core.world holder (contains_head o.core.world (earlier o)) stored.wide

  pub round_of : IsRoundOf (nursery_place o.layout 0) t
  round_of = record {
    past = all_past;
    outside = outside;
    young = young;
    changed = changed;
    parts = λ weak parts there alive.
        old_weaks_stay o.core.world rows can.world (can_replay o.core h.events h.legal) weak parts there (rw (history o.core h.events h.legal).1 at alive);
  }

  -- blocks in use have the objects that they had, of the same sizes
  pub blocks_then : (s : Segments) → AreBlocks s (nursery_place o.layout 0) o.places o.core.world → AreBlocks s (nursery_place o.layout 0) places W
  blocks_then s blocks = record {
    held = λ p node c lt other there. elim (place_cases o h.born p c) [
      | inl d ↦
          let was = is_some_of (node_of o.core.world p.name) (can.represents.named p d).known in
          let size : size_of was.0 ≡ size_of node = ap (λ (k : Header). HEADER_WORDS + k.fields) (began_earlier.headers p.name was.0 node was.1 there) in
          let block = blocks.held p was.0 d lt other was.1 in
          (block.0, block.1, let fits = block.2 in omega arith)
      | inr (x, d, is) ↦ absurd (let up = born_up x d in let at : p.at ≡ x.at = ap (λ (q : Place). q.at) is in omega arith)
    ];
    filled = λ at size occupied. let name = blocks.filled at size occupied in
        (name.0, Contains-append_left o.places (map place_of h.born) (record { at = at; name = name.0 }) name.1);
  }

  pub no_nodes : Represents o.layout (o.core.world ∷ earlier o) (IsKeptThen o h.born) places W words →
      Represents o.layout (o.core.world ∷ earlier o) NoNode places W words
  no_nodes r = remembered o.layout (o.core.world ∷ earlier o) (o.core.world ∷
      earlier o) (IsKeptThen o h.born) NoNode places W words (record {
        worlds = λ e c. contains_tail W (o.core.world ∷ earlier o) e c;
        nodes = λ name node none. absurd none;
      }) r

pub stopped : EventsAreHistory → RootsAreLeft → BirthsAreInOrder → RoundIsRemembered → RoundIsStopped
stopped history roots births remembers o before words v mutators done s can past same segments blocks left worked reserve =
    let h = left.0 in
    let base : young_base s ≡ nursery_place o.layout 0 = ap (λ (l : Layout). nursery_place l 0) same in
    let in_order = births o before words v mutators done can h worked in
    let w : World = (now o h.events).world in
    record {
      world = world history o before words v mutators can past h;
      round = subst (λ n. IsRoundOf n (stop_after o words v h mutators)) (sym base) (round_of history o before words v mutators can past h);
      represents = rw same (no_nodes history o before words v mutators can past h left.1);
      roots = roots o words v mutators done h worked;
      segments = segments;
      blocks = rw base (blocks_then history o before words v mutators can past h s (rw base at blocks));
      used = subst (λ (l : Layout). AreUsed l (nursery_place l 0) (places_then o h.born) w (nurseries_of mutators)) (sym same) in_order.1;
      order = subst (λ n. LieInOrder n (places_then o h.born)) (sym base) in_order.0;
      left = rw base (remembers o before words v mutators done can h worked);
      reserve = reserve;
    }
