-- The events of a run, one part after another. An observer that was given the events of a run so far, and then those from there on,
-- was given all events of the run.
use Rattle.std.proofs.Common.{ℕ, ◌≡◌, ◌+◌, ◌++◌, List, [], ◌∷◌, length, map, refl, sym, ap, subst, ◌∙◌, arith, append_assoc, append-nil}
use Rattle.std.specs.Prelude.{All, Bool, true, false}
use Rattle.std.proofs.lemmas.List.{map-append, Elements.All-cons, Elements.All-head, Elements.All-nil, Elements.All-tail}
use Rattle.nmgc_journal.specs.{declared.report.RoundRows.RoundRows, declared.report.StopRow.StopRow, declared.report.CycleRow.CycleRow}
use Rattle.nmgc_script.specs.declared.script.Script.{Script}
use Rattle.nmgc_cycle.specs.{declared.collector.Collector.Collector, declared.observer.Event.Event, Observed.AlternateFrom, Observed.AreEventsFrom, Observed.AreEventsOf, Observed.AreNumbered, Observed.HandsOn, Observed.Observed, Observed.ObservedFrom, Observed.ObservedPart, Observed.ObservedRest, Observed.ObservedRun, Observed.but_last, Observed.cycles_in, Observed.each_event, Observed.each_further, Observed.last_failed, Observed.rounds_in, Observed.stop_follows, Observed.stops_in, Shown.report_cycles, Shown.report_row}
use Rattle.nmgc_cycle.specs.declared.observer.Event.TheVariants as event

-- the rows among the events of two parts
pub rounds_on : (first more : List Event) → rounds_in (first ++ more) ≡ rounds_in first ++ rounds_in more
rounds_on [] more = refl
rounds_on (event.Stop row cycles ∷ first) more = rounds_on first more
rounds_on (event.Round rows ∷ first) more = ap (λ (l : List RoundRows). rows ∷ l) (rounds_on first more)

pub stops_on : (first more : List Event) → stops_in (first ++ more) ≡ stops_in first ++ stops_in more
stops_on [] more = refl
stops_on (event.Stop row cycles ∷ first) more = ap (λ (l : List StopRow). row ∷ l) (stops_on first more)
stops_on (event.Round rows ∷ first) more = stops_on first more

pub cycles_on : (first more : List Event) → cycles_in (first ++ more) ≡ cycles_in first ++ cycles_in more
cycles_on [] more = refl
cycles_on (event.Stop row cycles ∷ first) more =
    ap (λ (l : List CycleRow). cycles ++ l) (cycles_on first more) ∙ sym (append_assoc cycles (cycles_in first) (cycles_in more))
cycles_on (event.Round rows ∷ first) more = cycles_on first more

-- the order of stops and rounds, from one part to the next
pub alternate_on : (stop : Bool) (first more : List Event) → AlternateFrom stop first → AlternateFrom (stop_follows stop first) more →
    AlternateFrom stop (first ++ more)
alternate_on stop [] more f g = g
alternate_on stop (event.Stop row cycles ∷ first) more f g = (f.0, alternate_on false first more f.1 g)
alternate_on stop (event.Round rows ∷ first) more f g = (f.0, alternate_on true first more f.1 g)

pub follows_on : (stop : Bool) (first more : List Event) → stop_follows stop (first ++ more) ≡ stop_follows (stop_follows stop first) more
follows_on stop [] more = refl
follows_on stop (event.Stop row cycles ∷ first) more = follows_on false first more
follows_on stop (event.Round rows ∷ first) more = follows_on true first more

-- the numbers of stops, from one part to the next
pub numbered_on : (n m : ℕ) (first more : List Event) → m ≡ n + length (stops_in first) → AreNumbered n first → AreNumbered m more → AreNumbered n (first ++ more)
numbered_on n m [] more e f g = subst (λ (k : ℕ). AreNumbered k more) (omega (arith, e)) g
numbered_on n m (event.Stop row cycles ∷ first) more e f g = (f.0, f.1, numbered_on (n + 1) m first more (omega (arith, e)) f.2 g)
numbered_on n m (event.Round rows ∷ first) more e f g = numbered_on n m first more e f g

-- rows with their names in order ended at the same stop
abbrev EndedAt : ℕ → CycleRow → Type 0
EndedAt stop row = row.ended ≡ stop

all_ended : (stop : ℕ) (rows : List CycleRow) → All (EndedAt stop) rows → All (EndedAt stop) (map report_row rows)
all_ended stop [] h = All-nil (EndedAt stop)
all_ended stop (row ∷ rows) h = All-cons (EndedAt stop) (report_row row) (map report_row rows) (All-head (EndedAt stop) row rows h)
    (all_ended stop rows (All-tail (EndedAt stop) row rows h))

-- no events, before the first stop
pub no_events : (c : Collector) → c.rows.rounds ≡ [] → c.rows.stops ≡ [] → report_cycles c ≡ [] → AreEventsOf c true []
no_events c rounds stops cycles =
    record { rounds = sym rounds; stops = sym stops; cycles = sym cycles; alternate = tt; next = refl; numbered = tt }

-- a stop
pub stop_further : (old new : Collector) (row : StopRow) (none cycles : List CycleRow) → none ≡ [] → row.number ≡ length old.rows.stops →
    new.rows.rounds ≡ old.rows.rounds → new.rows.stops ≡ old.rows.stops ++ row ∷ [] →
    HandsOn (length old.rows.stops) old.rows.cycles new.rows.cycles none cycles →
    AreEventsFrom old new false (event.Stop row (map report_row cycles) ∷ [])
stop_further old new row none cycles empty number rounds stops hands = record {
  rounds = rounds ∙ sym (append-nil old.rows.rounds);
  stops = stops;
  cycles = ap (λ (l : List CycleRow). map report_row l) hands.1
      ∙ map-append report_row old.rows.cycles hands.0
      ∙ ap (λ (l : List CycleRow). report_cycles old ++ map report_row l) (sym handed)
      ∙ ap (λ (l : List CycleRow). report_cycles old ++ l) (sym (append-nil (map report_row cycles)));
  alternate = (refl, tt);
  next = refl;
  numbered = (
    number,
    all_ended (length old.rows.stops) cycles (subst (λ (l : List CycleRow). All (EndedAt (length old.rows.stops)) l) (sym handed) hands.3),
    tt,
  );
}
  where
    handed : cycles ≡ hands.0
    handed = hands.2 ∙ ap (λ (l : List CycleRow). l ++ hands.0) empty

-- the events of a run so far, and then those from there on
pub events_complete : (old new : Collector) (stop : Bool) (first more : List Event) → AreEventsOf old true first → AreEventsFrom old new stop more →
    AreEventsOf new stop (first ++ more)
events_complete old new stop first more h m = record {
  rounds = rounds_on first more ∙ ap (λ (l : List RoundRows). l ++ rounds_in more) h.rounds ∙ sym m.rounds;
  stops = stops_on first more ∙ ap (λ (l : List StopRow). l ++ stops_in more) h.stops ∙ sym m.stops;
  cycles = cycles_on first more ∙ ap (λ (l : List CycleRow). l ++ cycles_in more) h.cycles ∙ sym m.cycles;
  alternate = alternate_on true first more h.alternate (subst (λ (s : Bool). AlternateFrom s more) (sym h.next) m.alternate);
  next = follows_on true first more ∙ ap (λ (s : Bool). stop_follows s more) h.next ∙ m.next;
  numbered =
      let same = ap (λ (l : List StopRow). length l) h.stops in
      numbered_on 0 (length old.rows.stops) first more (omega (arith, same)) h.numbered m.numbered;
}

-- the events with a stop more
pub stop_events : (events : List Event) (old new : Collector) (row : StopRow) (none cycles : List CycleRow) → AreEventsOf old true events → none ≡ [] →
    row.number ≡ length old.rows.stops → new.rows.rounds ≡ old.rows.rounds → new.rows.stops ≡ old.rows.stops ++ row ∷ [] →
    HandsOn (length old.rows.stops) old.rows.cycles new.rows.cycles none cycles →
    AreEventsOf new false (events ++ event.Stop row (map report_row cycles) ∷ [])
stop_events events old new row none cycles h empty number rounds stops hands =
    events_complete old new false events (event.Stop row (map report_row cycles) ∷ []) h
    (stop_further old new row none cycles empty number rounds stops hands)

-- and with a round more
pub round_events : (events : List Event) (old new : Collector) (rows : RoundRows) → AreEventsOf old false events →
    new.rows.rounds ≡ old.rows.rounds ++ rows ∷ [] → new.rows.stops ≡ old.rows.stops → new.rows.cycles ≡ old.rows.cycles →
    AreEventsOf new true (events ++ event.Round rows ∷ [])
round_events events old new rows h rounds stops cycles =
    let one : List Event = event.Round rows ∷ [] in record {
      rounds = rounds_on events one ∙ ap (λ (l : List RoundRows). l ++ rows ∷ []) h.rounds ∙ sym rounds;
      stops = stops_on events one ∙ append-nil (stops_in events) ∙ h.stops ∙ sym stops;
      cycles = cycles_on events one ∙ append-nil (cycles_in events) ∙ h.cycles ∙ ap (λ (l : List CycleRow). map report_row l) (sym cycles);
      alternate = alternate_on true events one h.alternate (h.next, tt);
      next = follows_on true events one;
      numbered = numbered_on 0 (length (stops_in events)) events one (omega arith) h.numbered tt;
    }

module _ {J : Type 0} (steps : J → Event → J → Type 0) where
  pub observed_on : (p m q : J) (first more : List Event) → Observed steps p first m → Observed steps m more q → Observed steps p (first ++ more) q
  observed_on p m q [] more f g = subst (λ (x : J). Observed steps x more q) (sym f) g
  observed_on p m q (e ∷ first) more f g = (f.0, f.1, observed_on f.0 m q first more f.2 g)

  -- an observer that was given the events of a run so far, and then those from there on, was given all events of the run
  pub the_rest_completes_a_run : (first p q : J) (old new : Collector) (stop : Bool) → ObservedRun steps first old true p →
      ObservedFrom steps old p new stop q → ObservedRun steps first new stop q
  the_rest_completes_a_run first p q old new stop h m =
      (h.0 ++ m.0, observed_on first p q h.0 m.0 h.1 m.1, events_complete old new stop h.0 m.0 h.2 m.2)

  -- the same of a run that was given up
  pub the_rest_completes_a_part : (fails : J → Event → J → Type 0) (script : Script) (first p q : J) (old : Collector) → ObservedRun steps first old true p →
      ObservedRest steps fails script old p q → ObservedPart steps fails script first q
  the_rest_completes_a_part fails script first p q old h (each_further c stop there o) =
      each_event c stop there (the_rest_completes_a_run first p q old c stop h o)
  the_rest_completes_a_part fails script first p q old h (last_failed c stop there f) =
      but_last c stop there (
        h.0 ++ f.0,
        f.1,
        f.2,
        observed_on first p f.1 h.0 f.0 h.1 f.3,
        f.4,
        subst (AreEventsOf c stop) (sym (append_assoc h.0 f.0 (f.2 ∷ []))) (events_complete old c stop h.0 (f.0 ++ f.2 ∷ []) h.2 f.5),
      )
