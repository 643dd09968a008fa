-- At a stop while a cycle marks, the heap is at rest beside the cycle.
use Rattle.std.proofs.{Common.◌≡◌, Common.◌+◌, Common.◌<◌, Common.ℕ, Common.List, Common.length, Common.map, Common.refl, Common.sym, Common.ap, Common.subst, Common.◌∙◌, Common.arith, Common.inl, Common.inr, Common.Some, lemmas.List.length-map, lemmas.Option.slice_get_within, lemmas.Option.get_or_from_slice_get}
use Rattle.std.specs.Prelude.{slice_get, Contains}
use Rattle.nmgc_world_spec.specs.World.{World}
use Rattle.nmgc_object.specs.{Words.nursery_place, declared.layout.Layout.Layout, declared.layout.Nursery.Nursery, declared.layout.TheConstants.SHARED_PLACE}
use Rattle.nmgc_alloc.specs.Segments.{IsSegments}
use Rattle.nmgc_heap_spec.specs.{Objects.Place, Represents.Represents, Represents.NoNode, Roots.RepresentsRoots}
use Rattle.nmgc_lists.specs.laws.Items.{item_map}
use Rattle.nmgc_stop_spec.specs.{Nurseries.nursery_at, Occupied.AreBlocks, Stopped.young_base, laws.Blocks.is_block, Cycle.Cycle}
use Rattle.nmgc_mutator.specs.{declared.mutator.Mutator.Mutator, Ready.IsUnused, laws.Common.none_known}
use Rattle.nmgc_collector_laws.specs.{Rest.IsResting, Collector.AreAtRest, Collector.IsMarking, Seen.CollectorSeen, Seen.MutatorSeen, Seen.end_of, Seen.ends_of, Seen.nurseries_of, Blocks.AreOfBlocks, Blocks.TiesAgree, Heaps.seen_mutator, Heaps.AreShown, Heaps.HeapRests, RestMarking.IsAtRestMarking, RestMarking.opening_beside, laws.Roots.same_registers, laws.Roots.same_queues, laws.Roots.same_serials}
use Rattle.nmgc_collector_laws.specs.Worked as turn
use Rattle.nmgc_run_spec.specs.{Heap.HoldsAtStop, Terms.registers_of, Terms.queues_of, Terms.serials_of, Heap.snapshots, Run.Plan, Run.State, Run.Progress, Run.marking, Run.layout_of}
use Rattle.nmgc_run_laws.specs.{Sound.IsSoundState, Sound.IsInCycle, laws.Places.blocks_at_stop, laws.Places.block_used}
use Rattle.nmgc_round.specs.View.{Opening}
use Rattle.nmgc_collector_laws.proofs.{cycles.Keeping.stop_is_at_rest, cycles.Opens.rest_opens, cycles.Tying.MarksLaw, cycles.Tying.core_snapshot, cycles.Tying.heap_of_blocks}

module _ (plan : Plan) (s : State) (seen : CollectorSeen) (c : Cycle) (mutators : List Mutator) (sound : IsSoundState plan s)
    (heap : HoldsAtStop (layout_of plan) s seen.words seen.segments (ends_of seen) seen.weaks)
    (at_rest : AreAtRest (layout_of plan) heap.places s.world seen) (marks : s.progress ≡
    marking c) (kept : IsMarking c s seen heap.places) (segments : IsSegments seen.segments) (are : AreShown seen.segments.layout seen mutators) where
  abbrev places : List Place
  places = heap.places

  layout_is : seen.segments.layout ≡ layout_of plan
  layout_is = heap.holds.layout_is

  in_cycle : IsInCycle (marking c) s.world s.allocation
  in_cycle = subst (λ (p : Progress). IsInCycle p s.world s.allocation) marks sound.cycle

  low : (p : Place) → Contains places p → p.at < young_base seen.segments
  low p d = elim ((heap.all p).0 d) [
    | inl g ↦ let at : p.at ≡ SHARED_PLACE = ap (λ (q : Place). q.at) g in omega (arith, at)
    | inr b ↦
        let used = block_used (layout_of plan) s.allocation seen.words seen.segments layout_is heap.holds.stands b.number b.block p.name b.lies in
        let lies = is_block seen.segments (young_base seen.segments) _ _ segments refl used in
        let four = lies.four in
        let below = lies.below in
        let at = b.at in
        omega (arith, four, below, at)
  ]

  seen_at : (k : ℕ) (m : Mutator) → slice_get mutators k ≡ Some m → slice_get seen.mutators k ≡ Some (seen_mutator m)
  seen_at k m e = subst (λ (l : List MutatorSeen). slice_get l k ≡ Some (seen_mutator m)) (sym are.are) (item_map seen_mutator mutators k m e)

  roots : RepresentsRoots places s.world (turn.registers_of mutators) (turn.queues_of mutators) (turn.serials_of mutators)
  roots =
      let e : ends_of seen ≡ map end_of (map seen_mutator mutators) = ap (λ (l : List MutatorSeen). map end_of l) are.are in
      subst (λ (y : List ℕ × List (List ℕ) × List ℕ). RepresentsRoots places s.world y.0 y.1 y.2)
      (λ i. ((ap registers_of e ∙ same_registers mutators) i, (ap queues_of e ∙ same_queues mutators) i, (ap serials_of e ∙ same_serials mutators) i))
      heap.holds.roots

  many : length mutators ≡ length s.world.mutators
  many = sym (length-map mutators (λ (m : Mutator). m.queue.words)) ∙ roots.mutators.0

  count : length mutators ≡ seen.segments.layout.mutators
  count = many ∙ sound.able.mutators ∙ ap (λ (l : Layout). l.mutators) (sym layout_is)

  unused : (k : ℕ) (m : Mutator) → slice_get mutators k ≡ Some m → IsUnused m
  unused k m e =
      let own = are.each k m e in
      let rest = at_rest in
      let at : nursery_at (nurseries_of seen) k ≡ m.nursery =
      get_or_from_slice_get (nurseries_of seen) k m.nursery _ (item_map (λ (x : MutatorSeen).
      x.nursery) seen.mutators k (seen_mutator m) (seen_at k m e)) in
      let same : m.layout ≡ layout_of plan = own.1 ∙ layout_is in
      let within = slice_get_within mutators k m e in
      let as_many = ap (λ (l : Layout). l.mutators) layout_is in
      let there : k < (layout_of plan).mutators = let all = count in omega arith in
      record {
        base = sym (ap (λ (n : Nursery). n.base) at) ∙ rest.nurseries.used.places_are k there ∙ ap (λ (l : Layout). nursery_place l k) (sym same) ∙
            ap (nursery_place m.layout) (sym own.0);
        top = sym (ap (λ (n : Nursery). n.top) at) ∙ rest.empty k ∙ ap (λ (n : Nursery). n.base) at;
        end = sym (ap (λ (n : Nursery). n.end) at) ∙ rest.nurseries.ends k there ∙ ap (λ (n : Nursery). n.base + (layout_of plan).nursery) at ∙
            ap (λ (l : Layout). m.nursery.base + l.nursery) (sym same);
      }

  resting : (k : ℕ) (m : Mutator) → slice_get mutators k ≡ Some m → IsResting seen.segments.layout k m
  resting k m e =
      let own = are.each k m e in
      let nothing = at_rest.nothing k (seen_mutator m) (seen_at k m e) in
      record {
        number_is = own.0;
        layout_is = own.1;
        whole = own.2;
        unused = unused k m e;
        no_recorded = none_known m.recorded.items nothing.recorded;
        no_weaks = none_known m.young_weaks.items nothing.young_weaks;
        no_finalised = none_known m.finalised.items nothing.finalised;
      }

  pub rests : IsAtRestMarking c kept.core seen.segments places s.world seen.words mutators seen.marker.queue
  rests =
      let length_seen : length seen.mutators ≡ length s.world.mutators = ap (λ (l : List MutatorSeen). length l) are.are ∙
      length-map mutators seen_mutator ∙ many in
      let at_stop = stop_is_at_rest c s seen places kept in_cycle.0 length_seen (λ k mutator e. (at_rest.nothing k mutator e).entries) in
      record {
        world = sound.world;
        machine = at_stop.0;
        sound = segments;
        represents = subst (λ (y : Layout × List World). Represents y.0 y.1 NoNode places s.world seen.words) (λ i. (
          sym layout_is i,
          ap snapshots marks i,
        )) heap.holds.represents;
        roots = roots;
        blocks = subst (λ (l : Layout).
            AreBlocks seen.segments (nursery_place l 0) places s.world) (sym layout_is)
            (blocks_at_stop (layout_of plan) s seen.words seen.segments (ends_of seen) seen.weaks heap);
        low = low;
        count = count;
        mutators_are = resting;
        waits = at_stop.1;
      }

-- so the marker may finish there
pub heap_rests : MarksLaw → TiesAgree → HeapRests
heap_rests law agree plan s seen c mutators sound heap at_rest marks kept segments are =
    let rest = rests plan s seen c mutators sound heap at_rest marks kept segments are in
    let interval = rest.machine.sound in
    let o : Opening = opening_beside seen.segments.layout kept.core heap.places mutators in
    let snapshot = core_snapshot c s.world kept.core interval kept.machine in
    let blocks : AreOfBlocks o c seen.segments seen.words s.allocation kept.core =
    heap_of_blocks law (layout_of plan) s seen.words seen.segments (ends_of seen) seen.weaks c s.world kept.core o heap segments interval
    kept.machine heap.holds.layout_is refl snapshot in (
      rest,
      record {
        opens = (rest_opens c kept.core seen.segments heap.places s.world seen.words mutators seen.marker.queue rest).0;
        tied = ((agree o c seen.segments seen.words s.allocation kept.core seen.marker blocks).0 kept.tied).1;
      },
    )
