-- After a stop the mutators are at rest, and so is the heap while no cycle marks.
use Rattle.std.proofs.{Common.ℕ, Common.◌≡◌, Common.◌+◌, Common.◌<◌, Common.List, Common.[], Common.length, Common.map, Common.refl, Common.sym, Common.ap, Common.subst, Common.◌∙◌, Common.inl, Common.inr, Common.arith, Common.Some, lemmas.Option.slice_get_within, lemmas.Option.get_or_from_slice_get, lemmas.Option.slice_get-map}
use Rattle.std.specs.Prelude.{Contains, slice_get, option_map}
use Rattle.nmgc_world_spec.specs.World.{World}
use Rattle.nmgc_object.specs.{Words.nursery_place, Words.block_size, declared.layout.Layout.Layout, declared.layout.Nursery.Nursery, declared.layout.TheConstants.SHARED_PLACE}
use Rattle.nmgc_alloc.specs.AllocState.{cells, block_place}
use Rattle.nmgc_heap_spec.specs.{Objects.Place, Represents.Represents, Represents.NoNode, Roots.RepresentsRoots}
use Rattle.nmgc_stop_spec.specs.{Nurseries.nursery_at, Occupied.AreBlocks, Stopped.young_base, laws.Blocks.is_block}
use Rattle.nmgc_mutator.specs.{declared.mutator.Mutator.Mutator, Ready.IsUnused, laws.Common.none_known as none_noted}
use Rattle.nmgc_collector_laws.specs.{Rest.IsAtRest, Rest.IsResting, Seen.MutatorSeen, Seen.end_of, Seen.ends_of, Seen.nurseries_of, laws.Roots.same_registers, laws.Roots.same_queues, laws.Roots.same_serials}
use Rattle.nmgc_collector_laws.specs.Worked as turn
use Rattle.nmgc_script.specs.declared.script.Script.{Script}
use Rattle.nmgc_run_laws.specs.Limits.{FitsRun}
use Rattle.nmgc_run_spec.specs.{Heap.snapshots, Terms.registers_of, Terms.queues_of, Terms.serials_of, Run.Run, Run.last_state, Run.plan_of, Run.layout_of}
use Rattle.nmgc_run_laws.specs.laws.Places.{blocks_at_stop, block_used}
use Rattle.nmgc_cycle.specs.{declared.collector.Collector.Collector, Keeps.IsAfterStop, Shown.seen, Shown.words_in, Shown.seen_mutator}
use Rattle.nmgc_cycle.proofs.{lists.Plans.sound_state, lists.RootLists.seen_at}

-- words represent a world, by equal parts
restated : {layout other : Layout} {earlier none : List World} {words same : List ℕ} (places : List Place) (w : World) → layout ≡ other →
    earlier ≡ none → words ≡ same → Represents layout earlier NoNode places w words → Represents other none NoNode places w same
restated {layout} {other} {earlier} {none} {words} {same} places w e f g r =
    subst (λ (l : Layout). Represents l none NoNode places w same) e (subst (λ (es : List World).
    Represents layout es NoNode places w same) f (subst (Represents layout earlier NoNode places w) g r))

-- the roots of the mutators, by the definitions of a run and of a round
pub same_roots : (places : List Place) (w : World) (ms : List Mutator) →
    RepresentsRoots places w (registers_of (map end_of (map seen_mutator ms))) (queues_of (map end_of (map seen_mutator ms)))
    (serials_of (map end_of (map seen_mutator ms))) → RepresentsRoots places w (turn.registers_of ms) (turn.queues_of ms) (turn.serials_of ms)
same_roots places w ms r =
    subst (λ (l : List ℕ). RepresentsRoots places w l (turn.queues_of ms) (turn.serials_of ms)) (same_registers ms) (subst (λ (l : List (List ℕ)).
    RepresentsRoots places w (registers_of (map end_of (map seen_mutator ms))) l (turn.serials_of ms)) (same_queues ms)
    (subst (RepresentsRoots places w (registers_of (map end_of (map seen_mutator ms))) (queues_of (map end_of (map seen_mutator ms)))) (same_serials ms) r))

-- the view of a mutator's nursery, by its number
pub nursery_seen : (ms : List Mutator) (k : ℕ) (m : Mutator) → slice_get ms k ≡ Some m →
    slice_get (map (λ (n : MutatorSeen). n.nursery) (map seen_mutator ms)) k ≡ Some m.nursery
nursery_seen ms k m e = slice_get-map (λ (n : MutatorSeen). n.nursery) (map seen_mutator ms) k ∙
    ap (option_map (λ (n : MutatorSeen). n.nursery)) (seen_at ms k m e)

module _ (script : Script) (c : Collector) (run : Run) (limits : FitsRun script) (still : IsAfterStop script c run) where
  -- an address below the nurseries
  pub rest_low : (p : Place) → Contains still.at_stop.heap.places p → p.at < young_base c.heap.segments
  rest_low p held = elim ((still.at_stop.heap.all p).0 held) [
    | inl g ↦ let at : p.at ≡ SHARED_PLACE = ap (λ (q : Place). q.at) g in omega (arith, at)
    | inr b ↦
        let heap = still.at_stop.heap in
        let used = block_used (layout_of (plan_of script)) (last_state run).allocation (seen c).words c.heap.segments heap.holds.layout_is
        heap.holds.stands b.number b.block p.name b.lies in
        let lies = is_block c.heap.segments (young_base c.heap.segments)
        (block_place (layout_of (plan_of script)) b.number (cells (last_state run).allocation b.number).class b.block)
        (block_size (cells (last_state run).allocation b.number).class) still.kept.sound refl used in
        let four = lies.four in
        let below = lies.below in
        let at = b.at in
        omega (arith, four, below, at)
  ]

  -- the nursery of a mutator is unused
  unused : (k : ℕ) (m : Mutator) → slice_get c.mutators.items k ≡ Some m → k < c.heap.segments.layout.mutators → m.number ≡ k →
      m.layout ≡ c.heap.segments.layout → IsUnused m
  unused k m e exists number layout =
      let rest = still.at_stop.at_rest in
      let at : nursery_at (nurseries_of (seen c)) k ≡ m.nursery =
      get_or_from_slice_get (nurseries_of (seen c)) k m.nursery _ (nursery_seen c.mutators.items k m e) in
      let same : m.layout ≡ layout_of (plan_of script) = layout ∙ still.kept.layout in
      let there : k < length script.threads = let mutators = ap (λ (l : Layout). l.mutators) still.kept.layout in omega (arith, mutators) in
      record {
        base = sym (ap (λ (n : Nursery). n.base) at) ∙ rest.nurseries.used.places_are k there ∙ ap (λ (l : Layout). nursery_place l k) (sym same) ∙
            ap (nursery_place m.layout) (sym number);
        top = sym (ap (λ (n : Nursery). n.top) at) ∙ rest.empty k ∙ ap (λ (n : Nursery). n.base) at;
        end = sym (ap (λ (n : Nursery). n.end) at) ∙ rest.nurseries.ends k there ∙ ap (λ (n : Nursery). n.base + script.config.nursery) at ∙
            ap (λ (l : Layout). m.nursery.base + l.nursery) (sym same);
      }

  -- the layout's number of mutators
  pub mutators_counted : length c.mutators.items ≡ c.heap.segments.layout.mutators
  mutators_counted = still.kept.count ∙ sym (ap (λ (l : Layout). l.mutators) still.kept.layout)

  pub resting : (k : ℕ) (m : Mutator) → slice_get c.mutators.items k ≡ Some m → IsResting c.heap.segments.layout k m
  resting k m e =
      let own = still.kept.own k m e in
      let nothing = still.at_stop.at_rest.nothing k (seen_mutator m) (seen_at c.mutators.items k m e) in
      record {
        number_is = own.number;
        layout_is = own.layout;
        whole = own.whole;
        unused = unused k m e (let exists = slice_get_within c.mutators.items k m e in omega (arith, exists, mutators_counted)) own.number own.layout;
        no_recorded = none_noted m.recorded.items nothing.recorded;
        no_weaks = none_noted m.young_weaks.items nothing.young_weaks;
        no_finalised = none_noted m.finalised.items nothing.finalised;
      }

  pub blocks_there : AreBlocks c.heap.segments (young_base c.heap.segments) still.at_stop.heap.places (last_state run).world
  blocks_there = subst (λ (l : Layout).
      AreBlocks c.heap.segments (nursery_place l 0) still.at_stop.heap.places (last_state run).world) (sym still.kept.layout)
      (blocks_at_stop (layout_of (plan_of script)) (last_state run) (seen c).words c.heap.segments (ends_of (seen c)) (seen c).weaks still.at_stop.heap)

  pub still_rests : snapshots (last_state run).progress ≡ [] → (words : List ℕ) → c.heap.words ≡ Some words →
      IsAtRest c.heap.segments still.at_stop.heap.places (last_state run).world words c.mutators.items
  still_rests none words is =
      let heap = still.at_stop.heap in
      let holds = heap.holds in
      let w = (last_state run).world in
      let same : layout_of (plan_of script) ≡ c.heap.segments.layout = sym still.kept.layout in
      record {
        world = (sound_state script c run limits still).world;
        sound = still.kept.sound;
        represents = restated heap.places w same none (ap words_in is) holds.represents;
        roots = same_roots heap.places w c.mutators.items holds.roots;
        blocks = blocks_there;
        low = rest_low;
        count = mutators_counted;
        mutators_are = resting;
      }
