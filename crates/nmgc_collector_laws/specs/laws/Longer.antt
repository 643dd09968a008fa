-- A collector at a stop represents the run of longer programs too.
use Rattle.std.specs.Prelude.{◌≡◌, ◌↔◌}
use Rattle.nmgc_collector_laws.specs.laws.Vocabulary.{ℕ, List, refl, sym, ap, subst, ◌∙◌, Contains, Layout, Command, Segments, Place, ListsWeaks, IsPlaceAtStop, MutatorEnd, HoldsAtStop, HeapStandsFor, snapshots, last_state, State, Progress, idle, marking, sweeping, layout_of, answer_of, longer_plan, longer_state, longer_run, runs_are_of_longer, rows_are_of_longer, layout_longer, answering, CollectorSeen, ends_of, AreAtRest, Matches, HoldsInCycle, IsPacedAtStop, StopsAreOfLonger}

module _ (more : List (List Command)) (seen : CollectorSeen) (places : List Place) where
  cycle_goes : (quota : ℕ) (p : Progress) (s : State) → HoldsInCycle (λ c. IsPacedAtStop quota c s seen) p s seen places →
      HoldsInCycle (λ c. IsPacedAtStop quota c (longer_state more s) seen) p (longer_state more s) seen places
  cycle_goes quota idle s h = h
  cycle_goes quota (marking c) s h = (
    record {
      core = h.0.core;
      machine = h.0.machine;
      tied = h.0.tied;
      remembered = h.0.remembered;
      low = h.0.low;
      room = h.0.room;
      queue_room = h.0.queue_room;
      from_is = h.0.from_is;
      noted = h.0.noted;
      nothing_listed = h.0.nothing_listed;
    },
    record { scanned = h.1.scanned; not_done = h.1.not_done },
  )
  cycle_goes quota (sweeping c closed) s h = h

-- the heap at a stop represents an equal state with an equal layout
heap_goes : (more : List (List Command)) (m l : Layout) (t s : State) (words : List ℕ) (segments : Segments) (mutators : List MutatorEnd) (weaks : List Place) →
    m ≡ l → t ≡ longer_state more s → (h : HoldsAtStop l s words segments mutators weaks) → HoldsAtStop m t words segments mutators weaks
heap_goes more m l t s words segments mutators weaks e f h = record {
  places = h.places;
  all = λ p. subst (λ (x : Layout). Contains h.places p ↔ IsPlaceAtStop x t.allocation p) (sym e)
      (subst (λ (x : State). Contains h.places p ↔ IsPlaceAtStop l x.allocation p) (sym f) (h.all p));
  holds = subst (λ (x : Layout). HeapStandsFor x (snapshots t.progress) h.places t.world t.allocation words segments mutators) (sym e)
      (subst (λ (x : State). HeapStandsFor l (snapshots x.progress) h.places x.world x.allocation words segments mutators) (sym f) h.holds);
  listed = subst (λ (x : Layout). ListsWeaks x h.places t.world weaks) (sym e)
      (subst (λ (x : State). ListsWeaks l h.places x.world weaks) (sym f) h.listed);
}

pub stops_are_of_longer : StopsAreOfLonger
unfolding heap_goes
stops_are_of_longer plan run more seen h may =
    let s : State = last_state run in
    let on = runs_are_of_longer plan run more h.is_run may in
    let t : State = last_state (longer_run more run) in
    let f : t ≡ longer_state more s = on.1 in
    let e : layout_of (longer_plan more plan) ≡ layout_of plan = layout_longer more plan in (
      record {
        is_run = on.0;
        agrees = rows_are_of_longer run more seen.rounds seen.stops seen.cycles h.agrees;
        matches = subst (λ (x : State). Matches seen x) (sym f)
            (record { phase = h.matches.phase; begun = h.matches.begun; collect = h.matches.collect; full = h.matches.full });
        answered = h.answered ∙ sym (answering more plan s may) ∙ ap (λ (x : State). answer_of (longer_plan more plan) x) (sym f);
        heap = heap_goes more (layout_of (longer_plan more plan)) (layout_of plan) t s seen.words seen.segments (ends_of seen) seen.weaks e f h.heap;
        at_rest = subst (λ (x : Layout). AreAtRest x h.heap.places t.world seen) (sym e)
            (subst (λ (x : State). AreAtRest (layout_of plan) h.heap.places x.world seen) (sym f) h.at_rest);
        cycle = subst (λ (x : State). HoldsInCycle (λ c. IsPacedAtStop plan.config.quota c x seen) x.progress x seen h.heap.places) (sym f)
            (cycle_goes more seen h.heap.places plan.config.quota s.progress s h.cycle);
      },
      refl,
    )
