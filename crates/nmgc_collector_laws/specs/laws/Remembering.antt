-- A round leaves all that the promotion of its stop needs.
use Rattle.std.specs.Prelude.{◌≡◌, ◌<◌, ◌≤◌, ◌∷◌}
use Rattle.nmgc_collector_laws.specs.laws.Vocabulary.{List, arith, sym, ap, subst, ◌∙◌, inl, inr, None, IsSome, Contains, Name, Ref, Parts, World, IsWorld, node_of, shared_name, Row, replayed, RefersTo, IsAlive, contains_head, contains_tail, contains_cases, HasStrongField, place_of_field, absent, old_refers_to_young, old_weaks_stay, nursery_place, Layout, IsSegments, Place, Represents, NoNode, IsEarlier, IsTracked, past_tracked, AreUsed, LieInOrder, AreBlocks, Remembers, IsRoundOf, HasReserve, HoldsAfterRound, snapshots, RoundIsRemembered, RoundIsForgotten, stopped_after, last_state, CollectorSeen, ends_of, nurseries_of, recorded_in, young_weaks_in, IsSoundRound, State, Plan, layout_of, block_low, born_high, old_low, rows_keep_headers, blocks_after_round, states_are_sound, rounds_are_sound}

module _ (plan : Plan) (s t : State) (rows : List Row) (places : List Place) (seen : CollectorSeen)
    (is : IsWorld s.world)
    (sound : IsSoundRound plan s rows t)
    (world_is : t.world ≡ replayed s.world rows)
    (segments : IsSegments seen.segments)
    (h : HoldsAfterRound (layout_of plan) s t places seen.words seen.segments (ends_of seen) seen.weaks) where
  -- the worlds before
  past : (e : World) → Contains (s.world ∷ snapshots t.progress) e → IsEarlier e t.world
  past e c = elim (contains_cases s.world (snapshots t.progress) e c) [
    | inl same ↦ rw (← same) (rw world_is (rows_keep_headers s.world rows is sound.can))
    | inr later ↦ sound.earlier e later
  ]

  outside : (e : World) (p : Place) → Contains (snapshots t.progress) e → Contains places p → IsSome (node_of e p.name) →
      p.at < nursery_place (layout_of plan) 0
  outside e p c d there = old_low (layout_of plan) s t places seen.words seen.segments (ends_of seen) seen.weaks segments h p d (sound.names e c p.name there)

  -- the objects in nurseries are exactly the new objects
  high_young : (p : Place) → Contains places p → nursery_place (layout_of plan) 0 ≤ p.at → node_of s.world p.name ≡ None
  high_young p c high = elim (h.sound p c) [
    | inl (inl g) ↦ let at = ap (λ (q : Place). q.at) g in absurd (omega (arith, at, high))
    | inl (inr b) ↦ let low = block_low (layout_of plan) s t places seen.words seen.segments (ends_of seen) seen.weaks segments h p b in
        absurd (omega (arith, low, high))
    | inr born ↦ born.young.0
  ]

  young_high : (p : Place) → Contains places p → node_of s.world p.name ≡ None → nursery_place (layout_of plan) 0 ≤ p.at
  young_high p c none = elim (h.sound p c) [
    | inl (inl g) ↦ absurd (there (sym (ap (λ (q : Place). node_of s.world q.name) g) ∙ none))
    | inl (inr b) ↦ absurd (absent (node_of s.world p.name) none (sound.known b.number b.block p.name b.lies))
    | inr born ↦ born_high (layout_of plan) s t places seen.words seen.segments (ends_of seen) seen.weaks segments h p born
  ]
    where
      there : node_of s.world shared_name ≡ None → ⊥
      there e = cc

  -- an old object that refers to a new object was in the wide reach as the round began
  changed : (holder name : Name) → IsSome (node_of s.world holder) → node_of s.world name ≡ None → RefersTo t.world holder name →
      IsTracked t.world (s.world ∷ snapshots t.progress) holder
  changed holder name old none refers =
      let at = place_of_field refers.0 (Ref name) refers.2 in
      let stands : HasStrongField (replayed s.world rows) holder at.0 (Ref name) = record {
        node = refers.0;
        node_is = sym (ap (λ (x : World). node_of x holder) world_is) ∙ refers.1;
        field = at.1;
      } in
      let stored = old_refers_to_young s.world rows is sound.can holder name at.0 old (absent (node_of s.world name) none) stands in
      past_tracked t.world (s.world ∷ snapshots t.progress) s.world holder (contains_head s.world (snapshots t.progress)) stored.wide

  parts_stay : (weak : Name) (parts : Parts) → IsSome (node_of s.world weak) → IsAlive t.world weak parts → IsAlive s.world weak parts
  parts_stay weak parts old alive = old_weaks_stay s.world rows is sound.can weak parts old (sym (ap (λ (x : World). node_of x weak) world_is) ∙ alive)

  pub round_of : IsRoundOf (nursery_place (layout_of plan) 0) (stopped_after s t places seen)
  round_of = record {
    past = past;
    outside = outside;
    young = λ p c. (high_young p c, young_high p c);
    changed = changed;
    parts = parts_stay;
  }

pub round_is_remembered : RoundIsRemembered
round_is_remembered plan run replies history t seen runnable h segments =
    let s : State = last_state run in
    let is = states_are_sound plan run runnable h.is_run in
    let sound = rounds_are_sound plan s t replies history is h.round in
    let world_is : t.world ≡ replayed s.world history = ap (λ (x : State). x.world) h.round.rest in
    let layout : layout_of plan ≡ seen.segments.layout = sym h.heap.holds.layout_is in
    let earlier : List World = s.world ∷ snapshots t.progress in
    record {
      world = sound.world;
      round = subst (λ (l : Layout).
          IsRoundOf (nursery_place l 0) (stopped_after s t h.places seen)) layout
          (round_of plan s t history h.places seen is.world sound world_is segments h.heap);
      represents = subst (λ (l : Layout). Represents l earlier NoNode h.places t.world seen.words) layout h.heap.holds.represents;
      roots = h.heap.holds.roots;
      segments = segments;
      blocks = subst (λ (l : Layout).
          AreBlocks seen.segments (nursery_place l 0) h.places t.world) layout
          (blocks_after_round (layout_of plan) s t h.places seen.words seen.segments (ends_of seen) seen.weaks h.heap);
      used = subst (λ (l : Layout). AreUsed l (nursery_place l 0) h.places t.world (nurseries_of seen)) layout h.nurseries.used;
      order = subst (λ (l : Layout). LieInOrder (nursery_place l 0) h.places) layout h.ordered;
      left = subst (λ (l : Layout). Remembers (nursery_place l 0) earlier h.places t.world (recorded_in seen) (young_weaks_in seen)) layout h.left;
      reserve = subst (λ (l : Layout). HasReserve l seen) layout h.reserve;
    }

pub round_is_forgotten : RoundIsForgotten
round_is_forgotten plan run replies history t seen runnable h segments =
    let s : State = last_state run in
    let is = states_are_sound plan run runnable h.is_run in
    let sound = rounds_are_sound plan s t replies history is h.round in
    let round = round_of plan s t history h.places seen is.world sound (ap (λ (x : State). x.world) h.round.rest) segments h.heap in
    record {
      fewer = λ e c. contains_tail s.world (snapshots t.progress) e c;
      past = λ e c. round.past e (contains_tail s.world (snapshots t.progress) e c);
      outside = round.outside;
    }
