-- The facts after a round for its stop's promotion, whatever the collector did beside it.
use Rattle.std.proofs.{Common.ℕ, Common.suc, Common.◌≡◌, Common.◌+◌, Common.◌<◌, Common.◌≤◌, Common.◌⊎◌, Common.List, Common.[], Common.◌∷◌, Common.length, Common.map, Common.refl, Common.sym, Common.ap, Common.subst, Common.◌∙◌, Common.inl, Common.inr, Common.arith, Common.Some, lemmas.Bool.cases_lt, lemmas.List.get_or_past, lemmas.List.length-map, lemmas.List.Elements.All-nil, lemmas.List.Elements.All-cons, lemmas.Option.slice_get-map, lemmas.Option.get_or_from_slice_get}
use Rattle.std.specs.Prelude.{All, slice_get, option_map}
use Rattle.nmgc_world_spec.specs.World.{World}
use Rattle.nmgc_object.specs.{Words.nursery_place, Words.reserve_count, declared.layout.Layout.Layout, declared.layout.Nursery.Nursery}
use Rattle.nmgc_alloc.specs.AllocState.{StandsFor, Segments}
use Rattle.nmgc_alloc.specs.Reserve as reserve
use Rattle.nmgc_heap_spec.specs.{Objects.Place, Roots.RepresentsRoots}
use Rattle.nmgc_stop_spec.specs.{Nurseries.AreUsed, Nurseries.AreEmpty, Nurseries.LieInOrder, Nurseries.nursery_at, Occupied.AreBlocks, Remembers.Remembers, Stopped.IsStopped, Stopped.young_base}
use Rattle.nmgc_mutator.specs.{declared.mutator.Mutator.Mutator, Ready.words_by}
use Rattle.nmgc_round.specs.{Naming.AllReply, Objects.earlier, Starting.CanOpen, View.FixedWord, View.Opening, View.DoneRow}
use Rattle.nmgc_collector_laws.specs.{Turn.RoundIsStopped, Turn.RoundListsFinalised, Turn.stop_after, Worked.Done, Worked.ListsFinalised, Heaps.IsRoundFrom, Collector.AreNurseries, Seen.end_of, Seen.ends_of, Seen.nurseries_of, Seen.recorded_in, Seen.young_weaks_in, Seen.finalised_in, laws.Roots.same_registers, laws.Roots.same_queues, laws.Roots.same_serials}
use Rattle.nmgc_collector_laws.specs.Worked as turn
use Rattle.nmgc_script.specs.declared.script.Script.{Script}
use Rattle.nmgc_run_spec.specs.{Terms.HasAllRegisters, Heap.snapshots, Terms.registers_of, Terms.queues_of, Terms.serials_of, Run.slice_of, Run.layout_of, AfterRound.program_of}
use Rattle.nmgc_cycle.specs.{declared.collector.Collector.Collector, Roots.HasRegisters, Shown.seen, Shown.seen_mutator, Shown.words_in}
use Rattle.nmgc_cycle.proofs.{stops.EnoughFree.reserve_free, lists.Phases.noted_snapshots, lists.Plans.sound_state, rounds.Positions.left_is, rounds.Resting.blocks_there, lists.RootLists.same_nurseries, lists.RootLists.same_recorded, lists.RootLists.same_weaks, lists.RootLists.same_finalised, rounds.Rounded.one_did, rounds.Slicing.commands_of, rounds.Over.IsOver, rounds.Over.plan, rounds.Over.s, rounds.Over.w, rounds.Over.t, rounds.Over.rows, rounds.Over.places, rounds.Over.shown, rounds.Over.view, rounds.Over.worked, rounds.Over.can, rounds.Over.mutators_count, rounds.Over.one}
use Rattle.nmgc_lists.specs.laws.Items.{item}

-- each has all its registers
pub all_registers : (ms : List Mutator) → ((k : ℕ) (m : Mutator) → slice_get ms k ≡ Some m → HasRegisters m) →
    All HasAllRegisters (map end_of (map seen_mutator ms))
all_registers [] h = All-nil HasAllRegisters
all_registers (m ∷ ms) h =
    All-cons HasAllRegisters (end_of (seen_mutator m)) (map end_of (map seen_mutator ms)) (h 0 m refl) (all_registers ms (λ k n e. h (suc k) n e))

-- the roots, as a run reads them
pub reported_roots : (places : List Place) (w : World) (ms : List Mutator) →
    RepresentsRoots places w (turn.registers_of ms) (turn.queues_of ms) (turn.serials_of ms) →
    RepresentsRoots places w (registers_of (map end_of (map seen_mutator ms))) (queues_of (map end_of (map seen_mutator ms)))
    (serials_of (map end_of (map seen_mutator ms)))
reported_roots places w ms r =
    subst (λ (l : List ℕ).
    RepresentsRoots places w l (queues_of (map end_of (map seen_mutator ms))) (serials_of (map end_of (map seen_mutator ms)))) (sym (same_registers ms))
    (subst (λ (l : List (List ℕ)). RepresentsRoots places w (turn.registers_of ms) l (serials_of (map end_of (map seen_mutator ms)))) (sym (same_queues ms))
    (subst (λ (l : List ℕ). RepresentsRoots places w (turn.registers_of ms) (turn.queues_of ms) l) (sym (same_serials ms)) r))

-- without commands no object was made
none_done : (d : List Done) → commands_of d ≡ [] → d ≡ []
none_done [] e = refl
none_done (x ∷ d) e = absurd (let count : length (commands_of (x ∷ d)) ≡ 0 = ap length e in omega arith)

none_made : (fixed : List FixedWord) (own : List DoneRow) → AllReply fixed own [] → words_by own ≡ 0
none_made fixed [] h = refl
none_made fixed (r ∷ rest) h = absurd h

module _ (script : Script) (c new : Collector) (o : Opening) (x : IsOver script c new o) where
  abbrev pub layout : Layout
  layout = layout_of (plan script c new o x)

  pub opening_layout : o.layout ≡ layout
  opening_layout = x.op.layout_is ∙ x.still.kept.layout

  -- the nursery of a mutator, by its number
  nursery_is : (k : ℕ) (m : Mutator) → slice_get new.mutators.items k ≡ Some m → nursery_at (turn.nurseries_of new.mutators.items) k ≡ m.nursery
  nursery_is k m e = get_or_from_slice_get (turn.nurseries_of new.mutators.items) k m.nursery _ (slice_get-map (λ (n : Mutator).
      n.nursery) new.mutators.items k ∙ ap (option_map (λ (n : Mutator). n.nursery)) e)

  -- if no commands were left, no object was made
  empty : ((m : ℕ) → program_of (s script c new o x).left m ≡ []) → AreEmpty (turn.nurseries_of new.mutators.items)
  empty none maker = elim (cases_lt maker (length new.mutators.items)) [
    | inl lt ↦
        let m = item new.mutators.items maker lt in
        let d = one_did script c new o x maker m.0 m.1 in
        let exists : maker < length script.threads = let count = mutators_count script c new o x in omega (arith, lt, count) in
        let nothing : d.1.0 ≡ [] = none_done d.1.0 ((one script c new o x maker d.1.0 d.1.1).4.commands ∙
        ap (slice_of script.config) (sym (left_is script c x.run x.still maker exists) ∙ none maker)) in
        let made : words_by d.0.rows ≡ 0 = none_made d.0.fixed d.0.rows (subst (AllReply d.0.fixed d.0.rows) nothing d.1.2.replied) in
        let top = d.1.2.nursery.top in
        let is = nursery_is maker m.0 m.1 in
        ap (λ (n : Nursery). n.top) is ∙ omega (arith, top, made) ∙ sym (ap (λ (n : Nursery). n.base) is)
    | inr past ↦
        let none : nursery_at (turn.nurseries_of new.mutators.items) maker ≡ record { base = 0; top = 0; end = 0 } =
        get_or_past (turn.nurseries_of new.mutators.items) maker (record {
          base = 0;
          top = 0;
          end = 0;
        }) (let count = length-map new.mutators.items (λ (n : Mutator). n.nursery) in omega (arith, count, past)) in
        ap (λ (n : Nursery). n.top) none ∙ sym (ap (λ (n : Nursery). n.base) none)
  ]

  pub has_reserve : (reserve_count c.heap.segments.layout ≤ reserve.free_count c.heap.segments.segments) ⊎ AreEmpty (turn.nurseries_of new.mutators.items)
  has_reserve = elim (reserve_free script c x.run x.still x.goes_on) [
    | inl none ↦ inr (empty none)
    | inr more ↦ inl (subst (λ (l : Layout). reserve_count l ≤ reserve.free_count c.heap.segments.segments) (sym x.still.kept.layout) more)
  ]

  module _ (law : RoundIsStopped) where
    blocks : AreBlocks c.heap.segments (young_base c.heap.segments) o.places o.core.world
    blocks =
        subst (λ (l : List Place). AreBlocks c.heap.segments (young_base c.heap.segments) l o.core.world) (sym x.op.places_are)
        (subst (AreBlocks c.heap.segments (young_base c.heap.segments) x.still.at_stop.heap.places) (sym x.op.world_is)
        (blocks_there script c x.run x.limits x.still))

    pub stopped : IsStopped (stop_after o x.did.words (view script c new o x) x.did.leaves.0 new.mutators.items) c.heap.segments x.did.words
        (turn.nurseries_of new.mutators.items) (turn.registers_of new.mutators.items) (turn.queues_of new.mutators.items)
        (turn.recorded_of new.mutators.items) (turn.weaks_of new.mutators.items)
    stopped = law o x.before x.did.words (view script c new o x) new.mutators.items x.did.done c.heap.segments (can script c new o x) x.op.past
        (sym x.op.layout_is) x.still.kept.sound blocks x.did.leaves (worked script c new o x) has_reserve

    -- the nurseries are whole
    whole : (maker : ℕ) → maker < layout.mutators → (nursery_at (turn.nurseries_of new.mutators.items) maker).end ≡
        (nursery_at (turn.nurseries_of new.mutators.items) maker).base + layout.nursery
    whole maker lt =
        let m = item new.mutators.items maker (let count = mutators_count script c new o x in omega (arith, count, lt)) in
        let did = (one_did script c new o x maker m.0 m.1).1.2 in
        let at = nursery_is maker m.0 m.1 in
        ap (λ (n : Nursery). n.end) at
        ∙ did.nursery.end
        ∙ ap (λ (l : Layout). m.0.nursery.base + l.nursery) (did.layout ∙ opening_layout)
        ∙ sym (ap (λ (n : Nursery). n.base + layout.nursery) at)

    pub nurseries_left : AreNurseries layout (places script c new o x) (w script c new o x) (nurseries_of (shown script c new o x))
    nurseries_left = subst (λ (l : List Nursery).
        AreNurseries layout (places script c new o x) (w script c new o x) l) (sym (same_nurseries new.mutators.items)) (record {
          used = subst (λ (l : Layout).
              AreUsed l (nursery_place l 0) (places script c new o x) (w script c new o x) (turn.nurseries_of new.mutators.items)) x.still.kept.layout stopped.used;
          ends = whole;
        })

    pub in_order : LieInOrder (nursery_place layout 0) (places script c new o x)
    in_order = subst (λ (l : Layout). LieInOrder (nursery_place l 0) (places script c new o x)) x.still.kept.layout stopped.order

    -- the worlds of the collector's facts
    pub spoken : earlier o ≡ snapshots (t script c new o x (s script c new o x).allocation).progress
    spoken = x.op.spoken ∙ sym (noted_snapshots (s script c new o x).progress (rows script c new o x))

    pub remembered : Remembers (nursery_place layout 0) ((s script c new o x).world ∷
        snapshots (t script c new o x (s script c new o x).allocation).progress) (places script c new o x) (w script c new o x)
        (recorded_in (shown script c new o x)) (young_weaks_in (shown script c new o x))
    remembered =
        subst (λ (weaks : List ℕ). Remembers (nursery_place layout 0) ((s script c new o x).world ∷
        snapshots (t script c new o x (s script c new o x).allocation).progress) (places script c new o x) (w script c new o x)
        (recorded_in (shown script c new o x)) weaks) (sym (same_weaks new.mutators.items))
        (subst (λ (recorded : List ℕ). Remembers (nursery_place layout 0) ((s script c new o x).world ∷
        snapshots (t script c new o x (s script c new o x).allocation).progress) (places script c new o x) (w script c new o x) recorded
        (turn.weaks_of new.mutators.items)) (sym (same_recorded new.mutators.items))
        (subst (λ (later : List World). Remembers (nursery_place layout 0) ((s script c new o x).world ∷
        later) (places script c new o x) (w script c new o x) (turn.recorded_of new.mutators.items) (turn.weaks_of new.mutators.items)) spoken
        (subst (λ (began : World). Remembers (nursery_place layout 0) (began ∷
        earlier o) (places script c new o x) (w script c new o x) (turn.recorded_of new.mutators.items) (turn.weaks_of new.mutators.items)) x.op.world_is
        (subst (λ (l : Layout). Remembers (nursery_place l 0) (o.core.world ∷
        earlier o) (places script c new o x) (w script c new o x) (turn.recorded_of new.mutators.items) (turn.weaks_of new.mutators.items))
        x.still.kept.layout stopped.left))))

    -- with segments that represent the same blocks, the round began with the heap of the stop
    abbrev pub round_from : (segments : Segments) → segments.layout ≡ layout → StandsFor segments (seen c).words (s script c new o x).allocation →
        IsRoundFrom layout (s script c new o x) (t script c new o x (s script c new o x).allocation) o (seen c).words x.did.words
        (view script c new o x) c.heap.segments segments (ends_of (seen c)) (ends_of (shown script c new o x)) (seen c).weaks
    round_from segments same stands = record {
      heap = x.still.at_stop.heap;
      known = (sound_state script c x.run x.limits x.still).known;
      can = subst (CanOpen o) (sym (ap words_in x.before_are)) (can script c new o x);
      layout_is = opening_layout;
      places_are = x.op.places_are;
      began = x.op.world_is;
      left = x.did.leaves;
      world_is = refl;
      earlier_is = sym spoken;
      allocation_is = refl;
      new_layout = same;
      stands = stands;
      registers = all_registers new.mutators.items (λ k m e. (one_did script c new o x k m e).1.2.size);
      roots = reported_roots (places script c new o x) (w script c new o x) new.mutators.items stopped.roots;
    }

  -- and its finalised weak pointers are reported
  module _ (law : RoundListsFinalised) where
    pub finalised_listed : ListsFinalised (nursery_place layout 0) (places script c new o x) (s script c new o x).world (w script c new o x)
        (finalised_in (shown script c new o x))
    finalised_listed =
        subst (λ (reported : List ℕ). ListsFinalised (nursery_place layout 0) (places script c new o x) (s script c new o x).world (w script c new o x) reported)
        (sym (same_finalised new.mutators.items))
        (subst (λ (began : World). ListsFinalised (nursery_place layout 0) (places script c new o x) began (w script c new o x)
        (turn.finalised_of new.mutators.items)) x.op.world_is
        (subst (λ (l : Layout). ListsFinalised (nursery_place l 0) (places script c new o x) o.core.world (w script c new o x)
        (turn.finalised_of new.mutators.items)) opening_layout
        (law o x.before x.did.words (view script c new o x) new.mutators.items x.did.done (can script c new o x) x.did.leaves.0 (worked script c new o x))))
