-- An observer's events, one part after another: a stop or a round more, and the rows that were kept.
use Rattle.nmgc_cycle.proofs.Vocabulary.{length, Err, Ok, OnErr, Result, ◌≡◌, List, [], ◌∷◌, ◌++◌, map, Bool, true, false, Option, Some, All, All-tail, refl, sym, ap, subst, ◌∙◌, append-nil, append_assoc, CycleRow, RoundRows, StopRow, End, MutatorEnd, Name, names_of, ends_of, Script, Collector, StopEnd, HasAnswered, HasStopped, IsFresh, HasNamesOnce, report_row, report_cycles, report_of, seen, Event, KeptRows, FailedRun, FailedStop, HandsOn, KeepsEvent, Observed, ObservedRun, ObservedStop, cycles_in, rounds_in, stops_in}
use Rattle.nmgc_cycle.specs.declared.observer.Event.TheVariants as event
use Rattle.nmgc_cycle.specs.declared.stop.StopEnd.TheVariants as answer
use Rattle.nmgc_cycle.specs.laws.Events.{observed_on, round_events, stop_events}
use Rattle.nmgc_cycle.proofs.{stops.Censuses.names_stopped, stops.Reported.same_parts}

-- a fact that holds after an error
pub any_err : {T E P : Type 0} (r : Result T E) → P → OnErr r P
any_err (Ok x) p = tt
any_err (Err e) p = p

module _ {J : Type 0} (steps : J → Event → J → Type 0) where
  pub observed_one : (p q : J) (e : Event) → steps p e q → Observed steps p (e ∷ []) q
  observed_one p q e s = (q, s, refl)

  -- before the first stop
  pub nothing_observed : (p : J) (script : Script) (c : Collector) → IsFresh script c → ObservedRun steps p c true p
  nothing_observed p script c fresh =
      let nothing = fresh.new.nothing in (
        [],
        refl,
        record { rounds = sym nothing.0; stops = sym nothing.1; cycles = sym nothing.2; alternate = tt; next = refl; numbered = tt },
      )

  -- one stop more
  pub stop_observed : (p m q : J) (old new : Collector) (row : StopRow) (stop : Option StopRow) (none cycles : List CycleRow) →
      ObservedRun steps p old true m → none ≡ [] → stop ≡ Some row → row.number ≡ length old.rows.stops → new.rows.rounds ≡ old.rows.rounds → new.rows.stops ≡ old.rows.stops ++ row ∷ [] →
      HandsOn (length old.rows.stops) old.rows.cycles new.rows.cycles none cycles → ObservedStop steps m stop (map report_row cycles) q → ObservedRun steps p new false q
  stop_observed p m q old new row stop none cycles h empty is number rounds stops hands f =
      let reported : List CycleRow = map report_row cycles in
      let step : steps m (event.Stop row reported) q = subst (λ (s : Option StopRow). ObservedStop steps m s reported q) is f in (
        h.0 ++ event.Stop row reported ∷ [],
        observed_on steps p m q h.0 (event.Stop row reported ∷ []) h.1 (observed_one m q (event.Stop row reported) step),
        stop_events h.0 old new row none cycles h.2 empty number rounds stops hands,
      )

  -- one round more
  pub round_observed : (p m q : J) (old new : Collector) (rows : RoundRows) → ObservedRun steps p old false m →
      new.rows.rounds ≡ old.rows.rounds ++ rows ∷ [] → new.rows.stops ≡ old.rows.stops → new.rows.cycles ≡ old.rows.cycles → steps m (event.Round rows) q →
      ObservedRun steps p new true q
  round_observed p m q old new rows h rounds stops cycles step = (
    h.0 ++ event.Round rows ∷ [],
    observed_on steps p m q h.0 (event.Round rows ∷ []) h.1 (observed_one m q (event.Round rows) step),
    round_events h.0 old new rows h.2 rounds stops cycles,
  )

  -- a stop and a round at which the observer failed
  pub stop_failed : (fails : J → Event → J → Type 0) (p m q : J) (old new : Collector) (row : StopRow) (stop : Option StopRow) (none cycles : List CycleRow) →
      ObservedRun steps p old true m → none ≡ [] → stop ≡ Some row → row.number ≡ length old.rows.stops → new.rows.rounds ≡ old.rows.rounds → new.rows.stops ≡ old.rows.stops ++ row ∷ [] →
      HandsOn (length old.rows.stops) old.rows.cycles new.rows.cycles none cycles → FailedStop fails m stop (map report_row cycles) q → FailedRun steps fails p new false q
  stop_failed fails p m q old new row stop none cycles h empty is number rounds stops hands f =
      let reported : List CycleRow = map report_row cycles in
      let e : Some f.0 ≡ Some row = sym f.1 ∙ is in
      let same : f.0 ≡ row = cc in (
        h.0,
        m,
        event.Stop row reported,
        h.1,
        subst (λ (x : StopRow). fails m (event.Stop x reported) q) same f.2,
        stop_events h.0 old new row none cycles h.2 empty number rounds stops hands,
      )

  pub round_failed : (fails : J → Event → J → Type 0) (p m q : J) (old new : Collector) (rows : RoundRows) → ObservedRun steps p old false m →
      new.rows.rounds ≡ old.rows.rounds ++ rows ∷ [] → new.rows.stops ≡ old.rows.stops → new.rows.cycles ≡ old.rows.cycles → fails m (event.Round rows) q →
      FailedRun steps fails p new true q
  round_failed fails p m q old new rows h rounds stops cycles step =
      (h.0, m, event.Round rows, h.1, step, round_events h.0 old new rows h.2 rounds stops cycles)

-- if no row of the whole list has a name twice, none of a part has
all_right : {X : Type 0} (P : X → Type 0) (xs ys : List X) → All P (xs ++ ys) → All P ys
all_right P [] ys h = h
all_right P (x ∷ xs) ys h = all_right P xs ys (All-tail P x (xs ++ ys) h)

pub stopped_any : (script : Script) (c : Collector) (end : StopEnd) → HasAnswered script c end → HasStopped script c
stopped_any script c answer.GoOn h = h.0
stopped_any script c answer.Done h = h.0
stopped_any script c (answer.HeapFull free reserve) h = h.0

-- the rows that a stop hands on have no name twice
pub once_handed : (script : Script) (old new : Collector) (end : StopEnd) (before after : List CycleRow) → HasAnswered script new end →
    HandsOn (length old.rows.stops) old.rows.cycles new.rows.cycles before after → before ≡ [] → All HasNamesOnce after
once_handed script old new end before after answered hands none =
    subst (λ (l : List CycleRow). All HasNamesOnce l) (sym (hands.2 ∙ ap (λ (l : List CycleRow). l ++ hands.0) none))
    (all_right HasNamesOnce old.rows.cycles hands.0 (subst (λ (l : List CycleRow). All HasNamesOnce l) hands.1
    (names_stopped script new (stopped_any script new end answered))))

-- kept rows are the rows of the events
kept_all : (p q : KeptRows) (events : List Event) → Observed KeepsEvent p events q →
    (q.rounds ≡ p.rounds ++ rounds_in events) × (q.stops ≡ p.stops ++ stops_in events) × (q.cycles ≡ p.cycles ++ cycles_in events)
kept_all p q [] h = (
  ap (λ (k : KeptRows). k.rounds) (sym h) ∙ sym (append-nil p.rounds),
  ap (λ (k : KeptRows). k.stops) (sym h) ∙ sym (append-nil p.stops),
  ap (λ (k : KeptRows). k.cycles) (sym h) ∙ sym (append-nil p.cycles),
)
kept_all p q (event.Stop row cycles ∷ events) h =
    let more = kept_all h.0 q events h.2 in
    let one = h.1 in (
      more.0 ∙ ap (λ (l : List RoundRows). l ++ rounds_in events) one.0,
      more.1 ∙ ap (λ (l : List StopRow). l ++ stops_in events) one.1 ∙ append_assoc p.stops (row ∷ []) (stops_in events),
      more.2 ∙ ap (λ (l : List CycleRow). l ++ cycles_in events) one.2 ∙ append_assoc p.cycles cycles (cycles_in events),
    )
kept_all p q (event.Round rows ∷ events) h =
    let more = kept_all h.0 q events h.2 in
    let one = h.1 in (
      more.0 ∙ ap (λ (l : List RoundRows). l ++ rounds_in events) one.0 ∙ append_assoc p.rounds (rows ∷ []) (rounds_in events),
      more.1 ∙ ap (λ (l : List StopRow). l ++ stops_in events) one.1,
      more.2 ∙ ap (λ (l : List CycleRow). l ++ cycles_in events) one.2,
    )

-- rows that were kept from a run's beginning are the collector's
pub kept_rows : (p q : KeptRows) (c : Collector) (stop : Bool) → (p.rounds ≡ []) × (p.stops ≡ []) × (p.cycles ≡ []) → ObservedRun KeepsEvent p c stop q →
    (q.rounds ≡ c.rows.rounds) × (q.stops ≡ c.rows.stops) × (q.cycles ≡ report_cycles c)
kept_rows p q c stop none h =
    let kept = kept_all p q h.0 h.1 in (
      kept.0 ∙ ap (λ (l : List RoundRows). l ++ rounds_in h.0) none.0 ∙ h.2.rounds,
      kept.1 ∙ ap (λ (l : List StopRow). l ++ stops_in h.0) none.1 ∙ h.2.stops,
      kept.2 ∙ ap (λ (l : List CycleRow). l ++ cycles_in h.0) none.2 ∙ h.2.cycles,
    )

-- a report of these rows is the collector's
pub same_all : (c : Collector) (end : End) (rounds : List RoundRows) (stops : List StopRow) (cycles : List CycleRow) (words : List _)
    (mutators : List MutatorEnd) (weaks : List Name) → rounds ≡ c.rows.rounds → stops ≡ c.rows.stops → cycles ≡ report_cycles c → words ≡ (seen c).words →
    mutators ≡ ends_of (seen c) → weaks ≡ names_of c.heap.weaks.list →
    record (report_of c end) { rounds = rounds; stops = stops; cycles = cycles; words = words; mutators = mutators; weaks = weaks } ≡ report_of c end
same_all c end rounds stops cycles words mutators weaks a b cycles_are words_are mutators_are weaks_are =
    ap (λ (rows : List RoundRows).
    record (report_of c end) { rounds = rows; stops = stops; cycles = cycles; words = words; mutators = mutators; weaks = weaks }) a
    ∙ ap (λ (rows : List StopRow). record (report_of c end) { stops = rows; cycles = cycles; words = words; mutators = mutators; weaks = weaks }) b
    ∙ same_parts c end cycles words mutators weaks cycles_are words_are mutators_are weaks_are
