-- An observer's events from a stop on: a stop or a round more, and one part after another.
use Rattle.nmgc_cycle.proofs.Vocabulary.{◌≡◌, arith, length, length-append, List, [], ◌∷◌, ◌++◌, map, Bool, true, false, Option, Some, refl, sym, ap, subst, ◌∙◌, append-nil, append_assoc, CycleRow, RoundRows, StopRow, Script, Collector, report_row, report_cycles, Event, AlternateFrom, AreEventsFrom, AreNumbered, FailedFrom, FailedStop, HandsOn, ObservedFrom, ObservedRest, ObservedStop, cycles_in, each_further, last_failed, rounds_in, stop_follows, stops_in}
use Rattle.nmgc_cycle.specs.declared.observer.Event.TheVariants as event
use Rattle.nmgc_cycle.specs.laws.Events.{alternate_on, cycles_on, follows_on, numbered_on, observed_on, rounds_on, stop_further, stops_on}

-- events between two collectors; `from` says whether a stop comes first
pub record AreFurther (from : Bool) (old new : Collector) (stop : Bool) (events : List Event) : Type 0 where
  pub rounds : new.rows.rounds ≡ old.rows.rounds ++ rounds_in events
  pub stops : new.rows.stops ≡ old.rows.stops ++ stops_in events
  pub cycles : report_cycles new ≡ report_cycles old ++ cycles_in events
  pub alternate : AlternateFrom from events
  pub next : stop_follows from events ≡ stop
  pub numbered : AreNumbered (length old.rows.stops) events

pub events_from : (old new : Collector) (stop : Bool) (events : List Event) → AreFurther true old new stop events → AreEventsFrom old new stop events
events_from old new stop events h = record { rounds = h.rounds; stops = h.stops; cycles = h.cycles; alternate = h.alternate; next = h.next; numbered = h.numbered }

pub from_events : (old new : Collector) (stop : Bool) (events : List Event) → AreEventsFrom old new stop events → AreFurther true old new stop events
from_events old new stop events h = record { rounds = h.rounds; stops = h.stops; cycles = h.cycles; alternate = h.alternate; next = h.next; numbered = h.numbered }

-- no events
pub no_further : (c : Collector) → AreEventsFrom c c true []
no_further c = record {
  rounds = sym (append-nil c.rows.rounds);
  stops = sym (append-nil c.rows.stops);
  cycles = sym (append-nil (report_cycles c));
  alternate = tt;
  next = refl;
  numbered = tt;
}

-- a round
round_further : (old new : Collector) (rows : RoundRows) → new.rows.rounds ≡ old.rows.rounds ++ rows ∷ [] → new.rows.stops ≡ old.rows.stops →
    new.rows.cycles ≡ old.rows.cycles → AreFurther false old new true (event.Round rows ∷ [])
round_further old new rows rounds stops cycles = record {
  rounds = rounds;
  stops = stops ∙ sym (append-nil old.rows.stops);
  cycles = ap (λ (l : List CycleRow). map report_row l) cycles ∙ sym (append-nil (report_cycles old));
  alternate = (refl, tt);
  next = refl;
  numbered = tt;
}

-- one part after another
both_further : (from between stop : Bool) (old mid new : Collector) (first more : List Event) → AreFurther from old mid between first →
    AreFurther between mid new stop more → AreFurther from old new stop (first ++ more)
both_further from between stop old mid new first more h m = record {
  rounds = m.rounds ∙ ap (λ (l : List RoundRows). l ++ rounds_in more) h.rounds ∙ append_assoc old.rows.rounds (rounds_in first) (rounds_in more)
      ∙ ap (λ (l : List RoundRows). old.rows.rounds ++ l) (sym (rounds_on first more));
  stops = m.stops ∙ ap (λ (l : List StopRow). l ++ stops_in more) h.stops ∙ append_assoc old.rows.stops (stops_in first) (stops_in more)
      ∙ ap (λ (l : List StopRow). old.rows.stops ++ l) (sym (stops_on first more));
  cycles = m.cycles ∙ ap (λ (l : List CycleRow). l ++ cycles_in more) h.cycles ∙ append_assoc (report_cycles old) (cycles_in first) (cycles_in more)
      ∙ ap (λ (l : List CycleRow). report_cycles old ++ l) (sym (cycles_on first more));
  alternate = alternate_on from first more h.alternate (subst (λ (s : Bool). AlternateFrom s more) (sym h.next) m.alternate);
  next = follows_on from first more ∙ ap (λ (s : Bool). stop_follows s more) h.next ∙ m.next;
  numbered =
      let same = ap (λ (l : List StopRow). length l) h.stops in
      let sum = length-append old.rows.stops (stops_in first) in
      numbered_on (length old.rows.stops) (length mid.rows.stops) first more (omega (arith, same, sum)) h.numbered m.numbered;
}

-- events from a stop on, with a round more
pub round_from : (old mid new : Collector) (rows : RoundRows) (first : List Event) → AreEventsFrom old mid false first →
    new.rows.rounds ≡ mid.rows.rounds ++ rows ∷ [] → new.rows.stops ≡ mid.rows.stops → new.rows.cycles ≡ mid.rows.cycles →
    AreEventsFrom old new true (first ++ event.Round rows ∷ [])
round_from old mid new rows first h rounds stops cycles =
    events_from old new true (first ++ event.Round rows ∷ []) (both_further true false true old mid new first (event.Round rows ∷ [])
    (from_events old mid false first h) (round_further mid new rows rounds stops cycles))

-- and with those from a later stop on
pub events_further : (old mid new : Collector) (stop : Bool) (first more : List Event) → AreEventsFrom old mid true first → AreEventsFrom mid new stop more →
    AreEventsFrom old new stop (first ++ more)
events_further old mid new stop first more h m = events_from old new stop (first ++ more)
    (both_further true true stop old mid new first more (from_events old mid true first h) (from_events mid new stop more m))

module _ {J : Type 0} (steps : J → Event → J → Type 0) where
  -- the observer was given a stop
  pub observed_stop : (p q : J) (old new : Collector) (row : StopRow) (stop : Option StopRow) (none cycles : List CycleRow) → none ≡ [] → stop ≡ Some row →
      row.number ≡ length old.rows.stops → new.rows.rounds ≡ old.rows.rounds → new.rows.stops ≡ old.rows.stops ++ row ∷ [] →
      HandsOn (length old.rows.stops) old.rows.cycles new.rows.cycles none cycles →
      ObservedStop steps p stop (map report_row cycles) q → ObservedFrom steps old p new false q
  observed_stop p q old new row stop none cycles empty is number rounds stops hands f =
      let reported : List CycleRow = map report_row cycles in
      let step : steps p (event.Stop row reported) q = subst (λ (s : Option StopRow). ObservedStop steps p s reported q) is f in (
        event.Stop row reported ∷ [],
        (q, step, refl),
        stop_further old new row none cycles empty number rounds stops hands,
      )

  -- and in the round after it
  pub observed_round : (p m q : J) (old mid new : Collector) (rows : RoundRows) → ObservedFrom steps old p mid false m →
      new.rows.rounds ≡ mid.rows.rounds ++ rows ∷ [] → new.rows.stops ≡ mid.rows.stops → new.rows.cycles ≡ mid.rows.cycles → steps m (event.Round rows) q →
      ObservedFrom steps old p new true q
  observed_round p m q old mid new rows h rounds stops cycles step = (
    h.0 ++ event.Round rows ∷ [],
    observed_on steps p m q h.0 (event.Round rows ∷ []) h.1 (q, step, refl),
    round_from old mid new rows h.0 h.2 rounds stops cycles,
  )

  -- from one stop to another, and from there on
  pub observed_both : (p m q : J) (old mid new : Collector) (stop : Bool) → ObservedFrom steps old p mid true m → ObservedFrom steps mid m new stop q →
      ObservedFrom steps old p new stop q
  observed_both p m q old mid new stop h g =
      (h.0 ++ g.0, observed_on steps p m q h.0 g.0 h.1 g.1, events_further old mid new stop h.0 g.0 h.2 g.2)

  -- the observer failed at a stop, or in the round after it
  pub failed_stop : (fails : J → Event → J → Type 0) (p q : J) (old new : Collector) (row : StopRow) (stop : Option StopRow) (none cycles : List CycleRow) →
      none ≡ [] → stop ≡ Some row → row.number ≡ length old.rows.stops → new.rows.rounds ≡ old.rows.rounds → new.rows.stops ≡ old.rows.stops ++ row ∷ [] →
      HandsOn (length old.rows.stops) old.rows.cycles new.rows.cycles none cycles → FailedStop fails p stop (map report_row cycles) q → FailedFrom steps fails old p new false q
  failed_stop fails p q old new row stop none cycles empty is number rounds stops hands f =
      let reported : List CycleRow = map report_row cycles in
      let e : Some f.0 ≡ Some row = sym f.1 ∙ is in
      let same : f.0 ≡ row = cc in (
        [],
        p,
        event.Stop row reported,
        refl,
        subst (λ (x : StopRow). fails p (event.Stop x reported) q) same f.2,
        stop_further old new row none cycles empty number rounds stops hands,
      )

  pub failed_round : (fails : J → Event → J → Type 0) (p m q : J) (old mid new : Collector) (rows : RoundRows) → ObservedFrom steps old p mid false m →
      new.rows.rounds ≡ mid.rows.rounds ++ rows ∷ [] → new.rows.stops ≡ mid.rows.stops → new.rows.cycles ≡ mid.rows.cycles → fails m (event.Round rows) q →
      FailedFrom steps fails old p new true q
  failed_round fails p m q old mid new rows h rounds stops cycles step =
      (h.0, m, event.Round rows, h.1, step, round_from old mid new rows h.0 h.2 rounds stops cycles)

  -- the run was given up at a later part
  pub rest_later : (fails : J → Event → J → Type 0) (script : Script) (p m q : J) (old mid : Collector) → ObservedFrom steps old p mid true m →
      ObservedRest steps fails script mid m q → ObservedRest steps fails script old p q
  rest_later fails script p m q old mid h (each_further c stop there o) =
      each_further c stop there (observed_both p m q old mid c stop h o)
  rest_later fails script p m q old mid h (last_failed c stop there f) =
      last_failed c stop there (
        h.0 ++ f.0,
        f.1,
        f.2,
        observed_on steps p m f.1 h.0 f.0 h.1 f.3,
        f.4,
        subst (AreEventsFrom old c stop) (sym (append_assoc h.0 f.0 (f.2 ∷ []))) (events_further old mid c stop h.0 (f.0 ++ f.2 ∷ []) h.2 f.5),
      )
