-- A round beside sweeping: the addresses of freed names are gone, and all tracked names have theirs.
use Rattle.nmgc_cycle.proofs.Vocabulary.{ℕ, ◌≡◌, ◌+◌, ◌≤◌, ◌<◌, List, [], ◌∷◌, length, sym, ap, subst, ◌∙◌, inl, inr, arith, Contains, cases_lt, World, Name, contains_head, contains_tail, nursery_place, AllocState, HasBlock, SweepsSome, StandsFor, counts_stand, Place, LieInOrder, Remembers, Opening, Script, DropsFreed, FreesUntracked, Sweeper, AreLeft, IsAtWork, IsKeptIn, Cycle, AreNurseries, IsLastBegun, HoldsAfterRound, snapshots, AreSettled, noted, IsRound, SweepsBeside, ends_of, nurseries_of, recorded_in, young_weaks_in, Progress, sweeping, waiting_count, runs_are, named_swept, Collector, HasSweptSome, Sweeps, seen, died, phase_in, sweeper_in, min}
use Rattle.nmgc_segment.specs.declared.state.State.TheVariants as stands
use Rattle.nmgc_alloc.specs.Reserve as reserve
use Rattle.nmgc_cycle.specs.declared.progress.Progress.TheVariants as doing
use Rattle.nmgc_cycle.specs.declared.progress.Sweeping as held_sweeping
use Rattle.nmgc_cycle.proofs.{Vocabulary.HasRoundLaws, rounds.GoneOn.HasGoneOn, rounds.ListedLeft.listed_left, rounds.MarkedBeside.phase_with, rounds.MarkedBeside.helped_as, rounds.Over.IsOver, rounds.Over.plan, rounds.Over.s, rounds.Over.w, rounds.Over.t, rounds.Over.rows, rounds.Over.places, rounds.Over.reported, rounds.Over.last, rounds.Over.shown, rounds.Over.view, lists.Phases.when_sweeping, lists.Phases.noted_snapshots, lists.Plans.is_runnable, lists.Plans.sound_state, rounds.RoundOver.layout, rounds.RoundOver.nurseries_left, rounds.RoundOver.in_order, rounds.RoundOver.remembered, rounds.RoundOver.finalised_listed, rounds.RoundOver.round_from, rounds.Rounded.is_round}

-- a quota was swept, or all that waited
swept_min : (quota count before after : ℕ) → after + count ≡ before → count ≤ quota → (count < quota → after ≡ 0) → count ≡ min quota before
swept_min quota count before after e most least = elim (cases_lt count quota) [
  | inl less ↦ let none = least less in omega (arith, e, most, none)
  | inr more ↦ omega (arith, e, most, more)
]

module _ (laws : HasRoundLaws) (script : Script) (c new : Collector) (o : Opening) (x : IsOver script c new o) (k : Cycle) (closed : ℕ)
    (e : (s script c new o x).progress ≡ sweeping k closed) where
  before : (v : held_sweeping.Sweeping) × (c.cycle.progress ≡ doing.Sweeping v)
  before = when_sweeping c.cycle.progress (phase_with laws script c new o x (sweeping k closed) e)

  did : (v : held_sweeping.Sweeping) × (new.cycle.progress ≡ doing.Sweeping v) × (x.did.helped.seat ≡ x.did.helped.from) ×
      HasSweptSome script.config.quota c.heap.segments new.heap.segments c.heap.names before.0 v
  did = helped_as laws script c new o x (doing.Sweeping before.0) before.1

  sweeper_was : sweeper_in c.cycle.progress ≡ before.0.sweeper
  sweeper_was = ap sweeper_in before.1

  sweeper_now : sweeper_in new.cycle.progress ≡ did.0.sweeper
  sweeper_now = ap sweeper_in did.1

  same_cycle : (shown script c new o x).cycle ≡ (seen c).cycle
  same_cycle =
      let dead : List Name = died c.heap.weaks.deaths in
      cc (did.1, did.3.rest, before.1)

  sweeps_before : Sweeps (sweeping k closed) (s script c new o x) c
  sweeps_before = subst (λ (p : Progress). Sweeps p (s script c new o x) c) e x.still.sweeper

  -- with the earlier segments, all represents the same
  whole : HoldsAfterRound (layout script c new o x) (s script c new o x) (t script c new o x (s script c new o x).allocation)
      (places script c new o x) x.did.words c.heap.segments (ends_of (shown script c new o x)) (seen c).weaks
  whole = laws.holds (layout script c new o x) (s script c new o x) (t script c new o x (s script c new o x).allocation) o (seen c).words
      x.did.words (view script c new o x) c.heap.segments c.heap.segments (ends_of (seen c)) (ends_of (shown script c new o x)) (seen c).weaks
      (round_from script c new o x laws.stopped c.heap.segments x.still.kept.layout x.still.at_stop.heap.holds.stands)

  stands_then : StandsFor c.heap.segments x.did.words (s script c new o x).allocation
  stands_then = whole.holds.stands

  -- so the sweeper went on from there
  at_work : IsAtWork k closed x.did.words (s script c new o x).allocation c.heap.segments (seen c).cycle before.0.sweeper
  at_work =
      let h = subst (IsAtWork k closed (seen c).words (s script c new o x).allocation c.heap.segments (seen c).cycle) sweeper_was sweeps_before.1 in
      record { stands = stands_then; notes = h.notes; sweeping = h.sweeping; settled = h.settled; begun = h.begun }

  swept : (b : AllocState) × SweepsSome (IsKeptIn k) did.3.count (s script c new o x).allocation b ×
      IsAtWork k closed x.did.words b new.heap.segments (seen c).cycle did.0.sweeper
  swept = did.3.swept.sweeps k closed x.did.words (s script c new o x).allocation (seen c).cycle (rw x.still.kept.layout x.still.named) at_work

  left_before : AreLeft c.heap.segments before.0.sweeper
  left_before = subst (λ (y : Sweeper). AreLeft c.heap.segments y) sweeper_was sweeps_before.0

  as_many : did.3.count ≡ min script.config.quota (waiting_count (s script c new o x).allocation)
  as_many =
      let waits = laws.counted x.did.words (s script c new o x).allocation c.heap.segments before.0.sweeper stands_then left_before in
      let fewer = did.3.swept.fewer in
      swept_min script.config.quota did.3.count (waiting_count (s script c new o x).allocation) (length did.0.sweeper.left) (omega (
        arith,
        fewer,
        waits,
      )) did.3.most (λ less. ap (λ l. length l) (did.3.least less))

  beside : SweepsBeside script.config.quota (s script c new o x).progress (s script c new o x).allocation swept.0
  beside = rw e (rw as_many at swept.1)

  round : IsRound script.config (s script c new o x) (reported script c new o x) (rows script c new o x) (t script c new o x swept.0)
  round = is_round script c new o x laws.history swept.0 beside

  same_layout : new.heap.segments.layout ≡ layout script c new o x
  same_layout = did.3.swept.layout ∙ x.still.kept.layout

  -- no freed name is tracked, and no weak pointer of the list was freed
  frees : FreesUntracked ((s script c new o x).world ∷
      snapshots (t script c new o x swept.0).progress) (s script c new o x).world (w script c new o x) (s script c new o x).allocation swept.0
  frees =
      let none : snapshots (t script c new o x swept.0).progress ≡ [] = noted_snapshots (s script c new o x).progress (rows script c new o x) ∙
      ap snapshots e in
      rw none (laws.frees (plan script c new o x) x.run k closed (reported script c new o x) (rows script c new o x) (t script c new o x swept.0)
      (is_runnable script x.limits) x.still.at_stop.is_run round e)

  listed : (p : Place) → Contains (seen c).weaks p → HasBlock swept.0 p.name
  listed =
      let earlier : List World = (s script c new o x).world ∷ snapshots (t script c new o x swept.0).progress in
      let known : Contains (w script c new o x ∷ earlier) (s script c new o x).world =
      contains_tail (w script c new o x) earlier (s script c new o x).world
      (contains_head (s script c new o x).world (snapshots (t script c new o x swept.0).progress)) in
      listed_left (layout script c new o x) earlier (s script c new o x).world (w script c new o x) (s script c new o x).allocation swept.0
      (places script c new o x) (seen c).weaks (sound_state script c x.run x.limits x.still).world known frees whole.listed

  -- the freed addresses are gone
  fewer : (fewer : List Place) ×
      HoldsAfterRound (layout script c new o x) (s script c new o x) (t script c new o x swept.0) fewer x.did.words new.heap.segments
      (ends_of (shown script c new o x)) (seen c).weaks × DropsFreed (layout script c new o x) ((s script c new o x).world ∷
      snapshots (t script c new o x swept.0).progress) (w script c new o x) (places script c new o x) fewer
  fewer = laws.swept_holds (layout script c new o x) (s script c new o x) (t script c new o x (s script c new o x).allocation) swept.0
      (places script c new o x) x.did.words c.heap.segments new.heap.segments (ends_of (shown script c new o x)) (seen c).weaks whole x.still.kept.sound frees
      swept.2.stands same_layout listed

  kept_on : AreNurseries (layout script c new o x) fewer.0 (w script c new o x) (nurseries_of (shown script c new o x)) ×
      LieInOrder (nursery_place (layout script c new o x) 0) fewer.0 ×
      Remembers (nursery_place (layout script c new o x) 0) ((s script c new o x).world ∷
      snapshots (t script c new o x swept.0).progress) fewer.0 (w script c new o x) (recorded_in (shown script c new o x))
      (young_weaks_in (shown script c new o x))
  kept_on = laws.drops (layout script c new o x) ((s script c new o x).world ∷
      snapshots (t script c new o x swept.0).progress) (w script c new o x) (places script c new o x) fewer.0
      (nurseries_of (shown script c new o x)) (recorded_in (shown script c new o x)) (young_weaks_in (shown script c new o x)) fewer.2
      (nurseries_left script c new o x laws.stopped) (in_order script c new o x laws.stopped) (remembered script c new o x laws.stopped)

  more_free : reserve.free_count c.heap.segments.segments ≤ reserve.free_count new.heap.segments.segments
  more_free =
      let was = counts_stand c.heap.segments x.did.words (s script c new o x).allocation stands.Free stands_then in
      let now = counts_stand new.heap.segments x.did.words swept.0 stands.Free swept.2.stands in
      let more = laws.grows k did.3.count (s script c new o x).allocation swept.0 swept.1 in
      omega (arith, was, now, more)

  course : IsLastBegun k (s script c new o x).number (s script c new o x).begun
  course = (rw e at (runs_are (plan script c new o x) x.run x.still.at_stop.is_run)).0

  -- the cycle sweeps on
  work_on : IsAtWork k closed x.did.words swept.0 new.heap.segments (shown script c new o x).cycle (sweeper_in new.cycle.progress)
  work_on =
      rw same_cycle (subst (IsAtWork k closed x.did.words swept.0 new.heap.segments (seen c).cycle) (sym sweeper_now) swept.2)

  sweeps_on : Sweeps (sweeping k closed) (t script c new o x swept.0) (last script c new o x)
  sweeps_on = (subst (λ (y : Sweeper). AreLeft new.heap.segments y) (sym sweeper_now) did.3.swept.left, work_on)

  settled : AreSettled (s script c new o x).begun new.heap.segments
  settled = subst (λ (number : ℕ). AreSettled number new.heap.segments) course.number_is work_on.settled

  pub swept_on : HasGoneOn script c new o x
  swept_on = record {
    blocks = swept.0;
    swept = beside;
    phase = ap phase_in did.1 ∙ sym (ap phase_in before.1);
    at = fewer.0;
    heap = fewer.1;
    nurseries = kept_on.0;
    ordered = kept_on.1;
    remembers = kept_on.2;
    reported =
        let all = finalised_listed script c new o x laws.finalised in
        record { all = λ p parts there low alive gone. all.all p parts (fewer.2.old p there) low alive gone; low = all.low };
    free = more_free;
    cycle = rw e (work_on.sweeping, settled);
    sweeper = subst (λ (p : Progress). Sweeps (noted p (rows script c new o x)) (t script c new o x swept.0) (last script c new o x)) (sym e) sweeps_on;
    named = named_swept (layout script c new o x) c.heap.names (IsKeptIn k) did.3.count (s script c new o x).allocation swept.0 swept.1 x.still.named;
  }
