-- A round beside marking, or without a cycle: blocks and addresses are the stop's, and the new objects'.
use Rattle.nmgc_cycle.proofs.Vocabulary.{◌≡◌, ◌≤◌, ◌⊎◌, ◌↔◌, List, [], refl, sym, ap, subst, ◌∙◌, inl, inr, arith, true, cases_lt, Core, IsSound, map_item, Name, StandsFor, Segments, counts_stand, HasMarked, IsTiedByPlaces, marks_seen, marks_after, Opening, View, Script, HasLeft, ShowEntries, IsMachineAtRest, with_rows, Sweeper, HasNotes, AreLeft, interval_of, Cycle, HoldsInCycle, IsMarking, IsPacedAtStop, IsPacedAfterRound, IsLastBegun, AreSettled, noted, SweepsBeside, MarkerSeen, WorkSeen, MutatorSeen, ends_of, IsInCycle, Progress, idle, marking, phase_of, runs_are, rounds_are_sound, Collector, HasHelped, HasScanned, Sweeps, seen, seen_mutator, died, phase_in, marker_in, work_in, sweeper_in, OpensIn}
use Rattle.nmgc_collector_laws.specs.{Collector.HasFound, Owed.GoesOn}
use Rattle.nmgc_segment.specs.declared.state.State.TheVariants as stands
use Rattle.nmgc_alloc.specs.Reserve as reserve
use Rattle.nmgc_cycle.specs.declared.progress.Marking as held_marking
use Rattle.nmgc_cycle.specs.declared.progress.Progress as held
use Rattle.nmgc_cycle.specs.declared.progress.Progress.TheVariants as doing
use Rattle.nmgc_cycle.proofs.{Vocabulary.HasRoundLaws, rounds.GoneOn.HasGoneOn, rounds.Opened.in_cycle, rounds.Opened.rests_beside, rounds.Over.IsOver, rounds.Over.plan, rounds.Over.s, rounds.Over.w, rounds.Over.t, rounds.Over.rows, rounds.Over.places, rounds.Over.reported, rounds.Over.last, rounds.Over.shown, rounds.Over.view, rounds.Over.worked, rounds.Over.can, rounds.Over.queue_kept, lists.Phases.when_idle, lists.Phases.when_marking, lists.Plans.sound_state, rounds.RoundOver.layout, rounds.RoundOver.opening_layout, rounds.RoundOver.nurseries_left, rounds.RoundOver.in_order, rounds.RoundOver.remembered, rounds.RoundOver.finalised_listed, rounds.RoundOver.round_from, rounds.Rounded.is_round}

module _ (laws : HasRoundLaws) (script : Script) (c new : Collector) (o : Opening) (x : IsOver script c new o) where
  -- the phase of the stop's state is the collector's
  pub phase_with : (p : Progress) → (s script c new o x).progress ≡ p → phase_in c.cycle.progress ≡ phase_of p
  phase_with p e = x.still.at_stop.matches.phase ∙ ap phase_of e

  pub helped_as : (q : held.Progress) → c.cycle.progress ≡ q →
      HasHelped x.did.helped.round script.config.quota x.did.helped.from x.did.helped.seat c.heap.segments new.heap.segments c.heap.names q new.cycle.progress
  helped_as q e = rw e at x.did.helped.helped

  -- the number of free segments is the same, if they represent the same blocks
  same_free : StandsFor new.heap.segments (seen c).words (s script c new o x).allocation →
      reserve.free_count c.heap.segments.segments ≤ reserve.free_count new.heap.segments.segments
  same_free after =
      let before = counts_stand c.heap.segments (seen c).words (s script c new o x).allocation stands.Free x.still.at_stop.heap.holds.stands in
      let now = counts_stand new.heap.segments (seen c).words (s script c new o x).allocation stands.Free after in
      omega (arith, before, now)

  -- no cycle in progress: the segments are as they were
  module _ (e : (s script c new o x).progress ≡ idle) where
    is_idle : c.cycle.progress ≡ doing.Idle
    is_idle = when_idle c.cycle.progress (phase_with idle e)

    nothing : HasHelped x.did.helped.round script.config.quota x.did.helped.from x.did.helped.seat c.heap.segments new.heap.segments c.heap.names doing.Idle
        new.cycle.progress
    nothing = helped_as doing.Idle is_idle

    pub idled : HasGoneOn script c new o x
    idled = record {
      blocks = (s script c new o x).allocation;
      swept = subst (λ (p : Progress). SweepsBeside script.config.quota p (s script c new o x).allocation (s script c new o x).allocation) (sym e) refl;
      phase = ap phase_in (nothing.2 ∙ sym is_idle);
      at = places script c new o x;
      heap = laws.holds (layout script c new o x) (s script c new o x) (t script c new o x (s script c new o x).allocation) o (seen c).words
          x.did.words (view script c new o x) c.heap.segments new.heap.segments (ends_of (seen c)) (ends_of (shown script c new o x)) (seen c).weaks
          (round_from script c new o x laws.stopped new.heap.segments same_layout stands_still);
      nurseries = nurseries_left script c new o x laws.stopped;
      ordered = in_order script c new o x laws.stopped;
      remembers = remembered script c new o x laws.stopped;
      reported = finalised_listed script c new o x laws.finalised;
      free = same_free stands_still;
      cycle = rw e settled;
      sweeper = rw e tt;
      named = x.still.named;
    }
      where
        same_layout : new.heap.segments.layout ≡ layout script c new o x
        same_layout = ap (λ (g : Segments). g.layout) nothing.1 ∙ x.still.kept.layout

        stands_still : StandsFor new.heap.segments (seen c).words (s script c new o x).allocation
        stands_still = subst (λ (g : Segments). StandsFor g (seen c).words (s script c new o x).allocation) (sym nothing.1) x.still.at_stop.heap.holds.stands

        settled : AreSettled (s script c new o x).begun new.heap.segments
        settled = subst (AreSettled (s script c new o x).begun) (sym nothing.1) (rw e at x.still.at_stop.cycle)

  -- a cycle marks
  module _ (k : Cycle) (e : (s script c new o x).progress ≡ marking k) where
    before : (m : held_marking.Marking) × (c.cycle.progress ≡ doing.Marking m)
    before = when_marking c.cycle.progress (phase_with (marking k) e)

    abbrev m : held_marking.Marking
    m = before.0

    did : (n : held_marking.Marking) × (new.cycle.progress ≡ doing.Marking n) ×
        HasScanned x.did.helped.round script.config.quota x.did.helped.from x.did.helped.seat c.heap.segments new.heap.segments m n
    did = helped_as (doing.Marking m) before.1

    abbrev n : held_marking.Marking
    n = did.0

    -- the views of marker, work, sweeper and cycle
    marker_was : (seen c).marker ≡ m.marker
    marker_was = ap marker_in before.1

    marker_now : (shown script c new o x).marker ≡ n.marker
    marker_now = ap marker_in did.1

    work_now : (shown script c new o x).work ≡ record { scanned = n.last.scanned; empty = n.last.empty }
    work_now = ap work_in did.1

    same_sweeper : sweeper_in new.cycle.progress ≡ sweeper_in c.cycle.progress
    same_sweeper = ap sweeper_in did.1 ∙ ap (λ (y : held_marking.Marking). y.sweeper) did.2.rest ∙ sym (ap sweeper_in before.1)

    same_cycle : (shown script c new o x).cycle ≡ (seen c).cycle
    same_cycle =
        let dead : List Name = died c.heap.weaks.deaths in
        cc (did.1, did.2.rest, before.1)

    marked : HasMarked c.heap.segments new.heap.segments (seen c).marker (shown script c new o x).marker n.last.scanned
    marked =
        rw marker_was (subst (λ (y : MarkerSeen). HasMarked c.heap.segments new.heap.segments m.marker y n.last.scanned) (sym marker_now) did.2.worked.marked)

    tied : IsTiedByPlaces o (marks_after o x.did.scans) new.heap.segments (shown script c new o x).marker
    tied =
        rw marker_now (subst (λ (v : View). IsTiedByPlaces v.opening (marks_seen v) new.heap.segments n.marker) x.did.helped.knows did.2.worked.tied)

    -- segments and words represent the same
    same_layout : new.heap.segments.layout ≡ layout script c new o x
    same_layout = marked.layout ∙ x.still.kept.layout

    stands_still : StandsFor new.heap.segments (seen c).words (s script c new o x).allocation
    stands_still = marked.stands (seen c).words (s script c new o x).allocation x.still.at_stop.heap.holds.stands

    -- the opening has the machine of the cycle
    opens : OpensIn (marking k) (s script c new o x) c x.still.at_stop.heap.places o
    opens = subst (λ (p : Progress). OpensIn p (s script c new o x) c x.still.at_stop.heap.places o) e x.opens

    abbrev was_marking : IsMarking k (s script c new o x) (seen c) x.still.at_stop.heap.places
    was_marking = opens.0

    same_core : o.core ≡ opens.0.core
    same_core = ap (λ (y : Opening). y.core) opens.1

    at_rest : IsMachineAtRest k o.core.world o.core
    at_rest =
        rw same_core (rw opens.0.machine.world_is (rests_beside laws.opens script c x.run x.limits x.still k e opens.0).machine)

    goes_on : (core : Core) × GoesOn k o x.did.words (view script c new o x) x.did.leaves.0 new.mutators.items core
    goes_on = laws.goes_on k o x.before x.did.words (view script c new o x) new.mutators.items x.did.done (ap (λ (y : Opening).
        y.marking) opens.1) (can script c new o x) at_rest x.did.leaves.0 (worked script c new o x) x.did.owed

    snapshot : o.core.snapshot ≡ k.snapshot
    snapshot = cc (same_core, laws.opens.snapshot k (s script c new o x).world opens.0.core (in_cycle laws.opens script c x.run x.limits x.still (marking k) e).0 opens.0.machine)

    swept_none : SweepsBeside script.config.quota (s script c new o x).progress (s script c new o x).allocation (s script c new o x).allocation
    swept_none = subst (λ (p : Progress). SweepsBeside script.config.quota p (s script c new o x).allocation (s script c new o x).allocation) (sym e) refl

    sound : IsSound (interval_of (with_rows k (rows script c new o x)))
    sound =
        let h = rounds_are_sound (plan script c new o x) (s script c new o x) (t script c new o x (s script c new o x).allocation)
        (reported script c new o x) (rows script c new o x) (sound_state script c x.run x.limits x.still)
        (is_round script c new o x laws.history (s script c new o x).allocation swept_none) in
        (subst (λ (p : Progress). IsInCycle (noted p (rows script c new o x)) (w script c new o x) (s script c new o x).allocation) e h.cycle).0

    left_as : HasLeft k (seen c) (shown script c new o x)
    left_as = record {
      cycle = same_cycle;
      sweeper = ap (λ (y : Sweeper). y.seen) same_sweeper;
      queue_room = λ i mutator is.
          let h = queue_kept script c new o x i mutator is in
          let before = was_marking.queue_room i (seen_mutator h.0) h.1 in
          let kept = h.2 in
          omega (arith, before, kept);
    }

    entries : ShowEntries (shown script c new o x) new.mutators.items
    entries i mutator is = let h = map_item seen_mutator new.mutators.items i mutator is in (h.0, h.1, ap (λ (y : MutatorSeen). y.entries) h.2)

    marks_on : IsMarking (with_rows k (rows script c new o x)) (t script c new o x (s script c new o x).allocation) (shown script c new o x)
        (places script c new o x) × HasFound (with_rows k (rows script c new o x)) (shown script c new o x).marker
    marks_on = laws.is_marking (layout script c new o x) k (s script c new o x) (t script c new o x (s script c new o x).allocation) (seen c)
        (shown script c new o x) (seen c).words x.did.words (ends_of (seen c)) (seen c).weaks o x.did.scans x.did.seats new.mutators.items
        x.did.done goes_on.0 n.last.scanned x.still.at_stop.heap x.did.leaves.0 x.did.sound sound opens.0 (opening_layout script c new o x)
        x.op.places_are snapshot refl refl x.did.gathers goes_on.1 marked tied left_as entries

    -- the pace
    paced_before : IsPacedAtStop script.config.quota k (s script c new o x) (seen c)
    paced_before = (rw e at x.still.at_stop.cycle).1

    course : IsLastBegun k (s script c new o x).number (s script c new o x).begun
    course = (rw e at (runs_are (plan script c new o x) x.run x.still.at_stop.is_run)).0

    scanned_is : (shown script c new o x).work.scanned ≡ n.last.scanned
    scanned_is = ap (λ (y : WorkSeen). y.scanned) work_now

    empty_is : (shown script c new o x).work.empty ≡ n.last.empty
    empty_is = ap (λ (y : WorkSeen). y.empty) work_now

    queue_is : (shown script c new o x).marker.queue ≡ n.marker.queue
    queue_is = ap (λ (y : MarkerSeen). y.queue) marker_now

    all_or_none : ((shown script c new o x).work.scanned ≡ script.config.quota) ⊎ ((shown script c new o x).work.empty ≡ true)
    all_or_none = elim (cases_lt n.last.scanned script.config.quota) [
      | inl less ↦ inr (empty_is ∙ did.2.empty.1 (did.2.least less))
      | inr more ↦ inl (let most = did.2.most in omega (arith, scanned_is, more, most))
    ]

    empty_where : ((shown script c new o x).work.empty ≡ true) ↔ ((shown script c new o x).marker.queue ≡ [])
    empty_where = (λ y. queue_is ∙ did.2.empty.0 (sym empty_is ∙ y), λ y. empty_is ∙ did.2.empty.1 (sym queue_is ∙ y))

    paced_on : IsPacedAfterRound script.config.quota (with_rows k (rows script c new o x)) (t script c new o x (s script c new o x).allocation)
        (shown script c new o x)
    paced_on =
        let some = x.limits.fits.config.some_quota in
        let most = did.2.most in
        let pace = marked.scanned.pace in
        laws.pace script.config.quota k (rows script c new o x) (s script c new o x) (t script c new o x (s script c new o x).allocation) (seen c)
        (shown script c new o x) some paced_before course.from_before refl (omega (arith, pace, scanned_is)) marked.scanned.grows (omega (
          arith,
          scanned_is,
          most,
        )) all_or_none empty_where marks_on.1

    -- the sweeper is as it was, and the same segments wait
    sweeps_before : Sweeps (marking k) (s script c new o x) c
    sweeps_before = subst (λ (p : Progress). Sweeps p (s script c new o x) c) e x.still.sweeper

    notes_on : HasNotes (with_rows k (rows script c new o x)) (sweeper_in c.cycle.progress)
    notes_on =
        let h = sweeps_before.0.notes in
        record {
          noted = record { epoch = h.noted.epoch; swept = h.noted.swept };
          once = h.once;
        }

    left_on : AreLeft new.heap.segments (sweeper_in c.cycle.progress)
    left_on = laws.left c.heap.segments new.heap.segments (sweeper_in c.cycle.progress)
        (laws.waits c.heap.segments new.heap.segments (seen c).words (seen c).words (s script c new o x).allocation x.still.at_stop.heap.holds.stands
        stands_still) marked.layout sweeps_before.0.left

    sweeps_on : Sweeps (marking (with_rows k (rows script c new o x))) (t script c new o x (s script c new o x).allocation) (last script c new o x)
    sweeps_on = (
      record {
        notes = subst (HasNotes (with_rows k (rows script c new o x))) (sym same_sweeper) notes_on;
        left = subst (λ (y : Sweeper). AreLeft new.heap.segments y) (sym same_sweeper) left_on;
      },
      subst (λ (y : Sweeper). y.seen.swept ≡ y.left) (sym same_sweeper) sweeps_before.1,
      subst (λ (y : Sweeper). y.seen.had ≡ []) (sym same_sweeper) sweeps_before.2,
      subst (λ (y : Sweeper). y.seen.freed ≡ []) (sym same_sweeper) sweeps_before.3,
    )

    pub marked_on : HasGoneOn script c new o x
    marked_on = record {
      blocks = (s script c new o x).allocation;
      swept = swept_none;
      phase = ap phase_in did.1 ∙ sym (ap phase_in before.1);
      at = places script c new o x;
      heap = laws.holds (layout script c new o x) (s script c new o x) (t script c new o x (s script c new o x).allocation) o (seen c).words
          x.did.words (view script c new o x) c.heap.segments new.heap.segments (ends_of (seen c)) (ends_of (shown script c new o x)) (seen c).weaks
          (round_from script c new o x laws.stopped new.heap.segments same_layout stands_still);
      nurseries = nurseries_left script c new o x laws.stopped;
      ordered = in_order script c new o x laws.stopped;
      remembers = remembered script c new o x laws.stopped;
      reported = finalised_listed script c new o x laws.finalised;
      free = same_free stands_still;
      cycle = subst (λ (p : Progress). HoldsInCycle (λ (j : Cycle).
          IsPacedAfterRound script.config.quota j (t script c new o x (s script c new o x).allocation) (shown script c new o x))
          (noted p (rows script c new o x)) (t script c new o x (s script c new o x).allocation) (shown script c new o x) (places script c new o x))
          (sym e) (marks_on.0, paced_on);
      sweeper = subst (λ (p : Progress).
          Sweeps (noted p (rows script c new o x)) (t script c new o x (s script c new o x).allocation) (last script c new o x)) (sym e) sweeps_on;
      named = x.still.named;
    }
