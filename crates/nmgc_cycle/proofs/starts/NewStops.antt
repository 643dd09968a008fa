-- A new collector meets the requirements of its first stop's promotion: no object was made yet.
use Rattle.nmgc_cycle.proofs.Vocabulary.{ℕ, ◌≡◌, ◌<◌, ◌≤◌, List, [], ◌∷◌, arith, sym, subst, inl, inr, Contains, World, IsWorld, node_of, IsBefore, contains_cases, nothing_in, flat_contains, absent, world_holds, Layout, nursery_place, IsSegments, Place, Represents, NoNode, IsEarlier, world_is_earlier, AreUsed, AreBlocks, Remembers, Stopped, IsStopped, IsRoundOf, AreAtRest, HoldsAtStop, registers_of, queues_of, serials_of, snapshots, CollectorSeen, MutatorSeen, ends_of, nurseries_of, recorded_in, young_weaks_in, Plan, State, start, layout_of, blocks_at_stop, places_low}
use Rattle.nmgc_lists.specs.laws.Items.{place_of}
use Rattle.nmgc_heap_spec.specs.laws.Changes.{remembered}

-- the heap of a state, at a stop that follows this world
abbrev pub stopped_in : World → State → List Place → CollectorSeen → Stopped
stopped_in began s places seen = record { world = s.world; began = began; later = snapshots s.progress; places = places; serials = serials_of (ends_of seen) }

module _ (plan : Plan) (seen : CollectorSeen)
    (is : IsWorld (start plan).world)
    (segments : IsSegments seen.segments)
    (h : HoldsAtStop (layout_of plan) (start plan) seen.words seen.segments (ends_of seen) seen.weaks)
    (rest : AreAtRest (layout_of plan) h.places (start plan).world seen) where
  abbrev w : World
  w = (start plan).world

  abbrev base : ℕ
  base = nursery_place (layout_of plan) 0

  abbrev at_stop : Stopped
  at_stop = stopped_in w (start plan) h.places seen

  low : (p : Place) → Contains h.places p → base ≤ p.at → ⊥
  low p c high = let l = places_low (layout_of plan) (start plan) seen.words seen.segments (ends_of seen) seen.weaks segments h p c in
      absurd (omega (arith, l, high))

  round : IsRoundOf base at_stop
  round = record {
    past = λ e c. elim (contains_cases w [] e c) [
      | inl same ↦ subst (λ (x : World). IsEarlier x w) same (world_is_earlier w is)
      | inr none ↦ absurd (nothing_in e none)
    ];
    outside = λ e p none c there. absurd (nothing_in e none);
    young = λ p c. (λ high. absurd (low p c high), λ none. absurd (absent (node_of w p.name) none (h.holds.represents.named p c).known));
    changed = λ holder name there none refers. absurd (absent (node_of w name) none ((world_holds w is).fields holder name there refers));
    parts = λ weak parts there alive. alive;
  }

  -- nothing was recorded
  none_recorded : (at : ℕ) → Contains (recorded_in seen) at → ⊥
  none_recorded at c =
      let m = flat_contains (λ (m : MutatorSeen). m.recorded) seen.mutators at c in
      let i = place_of seen.mutators m.0 m.1 in
      nothing_in at (subst (λ (l : List ℕ). Contains l at) (rest.nothing i.0 m.0 i.1).recorded m.2)

  -- and no weak pointer was made
  none_young : (at : ℕ) → Contains (young_weaks_in seen) at → ⊥
  none_young at c =
      let m = flat_contains (λ (m : MutatorSeen). m.young_weaks) seen.mutators at c in
      let i = place_of seen.mutators m.0 m.1 in
      nothing_in at (subst (λ (l : List ℕ). Contains l at) (rest.nothing i.0 m.0 i.1).young_weaks m.2)

  left : Remembers base (w ∷ []) h.places w (recorded_in seen) (young_weaks_in seen)
  left = record {
    fields = λ at c. absurd (none_recorded at c);
    all_fields = λ p q node i there below other tracked known holds found high. absurd (low q found high);
    weak_places = λ at c. absurd (none_young at c);
    all_weaks = λ p parts c high alive. absurd (low p c high);
  }

  pub new_stopped : IsStopped at_stop seen.segments seen.words (nurseries_of seen) (registers_of (ends_of seen)) (queues_of (ends_of seen))
      (recorded_in seen) (young_weaks_in seen)
  new_stopped =
      let layout : layout_of plan ≡ seen.segments.layout = sym h.holds.layout_is in
      record {
        world = is;
        round = subst (λ (l : Layout). IsRoundOf (nursery_place l 0) at_stop) layout round;
        represents = subst (λ (l : Layout). Represents l (w ∷ []) NoNode h.places w seen.words) layout (remembered (layout_of plan) [] (w ∷
            []) NoNode NoNode h.places w seen.words (record { worlds = λ e c. c; nodes = λ name node k. inl k }) h.holds.represents);
        roots = h.holds.roots;
        segments = segments;
        blocks = subst (λ (l : Layout).
            AreBlocks seen.segments (nursery_place l 0) h.places w) layout
            (blocks_at_stop (layout_of plan) (start plan) seen.words seen.segments (ends_of seen) seen.weaks h);
        used = subst (λ (l : Layout). AreUsed l (nursery_place l 0) h.places w (nurseries_of seen)) layout rest.nurseries.used;
        order = subst (λ (l : Layout). (a b : Place) → Contains h.places a → Contains h.places b → nursery_place l 0 ≤ a.at → a.at < b.at →
            IsBefore a.name b.name) layout (λ a b c d high. absurd (low a c high));
        left = subst (λ (l : Layout). Remembers (nursery_place l 0) (w ∷ []) h.places w (recorded_in seen) (young_weaks_in seen)) layout left;
        reserve = inr rest.empty;
      }
