-- The collector after a stop has answered.
use Rattle.nmgc_cycle.proofs.{Vocabulary.ℕ, Vocabulary.◌≡◌, Vocabulary.◌<◌, Vocabulary.◌≤◌, Vocabulary.List, Vocabulary.[], Vocabulary.◌∷◌, Vocabulary.◌++◌, Vocabulary.refl, Vocabulary.sym, Vocabulary.ap, Vocabulary.subst, Vocabulary.◌∙◌, Vocabulary.true, Vocabulary.false, Vocabulary.Option, Vocabulary.Some, Vocabulary.None, Vocabulary.CycleRow, Vocabulary.End, Vocabulary.RoundRows, Vocabulary.StopRow, Vocabulary.Script, Vocabulary.AreRowsOf, Vocabulary.last_state, Vocabulary.has_left, Vocabulary.Plan, Vocabulary.State, Vocabulary.is_idle, Vocabulary.plan_of, Vocabulary.free_count, Vocabulary.reserve_of, Vocabulary.IsStop, Vocabulary.stop_row, Vocabulary.answer_of, Vocabulary.report_cycles, Vocabulary.Collector, Vocabulary.AreFewAtStop, Vocabulary.IsAfterStop, Vocabulary.StandsAt, stops.Begins.Begins, stops.Begins.IsReportedBut, lengths.StopFew.few_at_stop, stops.StopSteps.IsLed, stops.Stopped.is_short_by, stops.Stopped.is_enough_by, stops.Stopped.answers_done, stops.Stopped.answers_on, stops.Stopped.answers_none, stops.Stopped.answers_full, stops.Reporting.stands_reported, stops.WholeStop.whole_stop}
use Rattle.nmgc_journal.specs.declared.report.End.TheVariants as end

-- a collector that represents the last state of a run is stopped by it
still : (script : Script) (c : Collector) (rounds : List RoundRows) (stops : List StopRow) (cycles : List CycleRow) (row : StopRow) (t : State) →
    c.rows.rounds ≡ rounds → c.rows.stops ≡ stops ++ row ∷ [] → report_cycles c ≡ cycles → (reported : IsReportedBut (plan_of script) rounds stops cycles row t) →
    StandsAt script c t → AreFewAtStop script c → c.answered ≡ answer_of (plan_of script) t → IsAfterStop script c reported.run
still script c rounds stops cycles row t rounds_are stops_are cycles_are reported stands few answers =
    let at : StandsAt script c (last_state reported.run) = subst (λ (s : State). StandsAt script c s) (sym reported.last) stands in
    record {
      kept = at.kept;
      at_stop = record {
        is_run = reported.is_run;
        agrees =
            rw rounds_are (rw stops_are (subst (λ (r : List CycleRow). AreRowsOf reported.run rounds (stops ++ row ∷ []) r) (sym cycles_are) reported.agrees));
        matches = at.matches;
        answered = answers ∙ ap (λ (s : State). answer_of (plan_of script) s) (sym reported.last);
        heap = at.heap;
        at_rest = record { nurseries = at.nurseries; empty = at.empty; nothing = at.rest };
        cycle = at.cycle;
      };
      sweeper = at.sweeper;
      named = at.named;
      few = few;
    }

module _ (script : Script) (old new : Collector) (b : Begins script old) (many : ℕ) (led : IsLed script b.began b.state many old new)
    (rounds_are : new.rows.rounds ≡ old.rows.rounds)
    (stops : List StopRow) (answered : Option End) (row : StopRow)
    (stops_are : stops ≡ old.rows.stops ++ row ∷ [])
    (row_is : row ≡ stop_row led.state many) where
  abbrev plan : Plan
  plan = plan_of script

  -- the state after the stop
  abbrev t : State
  t = led.state

  -- the collector, with its row
  abbrev pub last : Collector
  last = record new { rows = record new.rows { stops = stops }; answered = answered }

  stands : StandsAt script last t
  stands = stands_reported script new last t t refl refl led.stands.matches.collect led.stands.matches.full led.stands

  few : AreFewAtStop script last
  few = rw stops_are (few_at_stop script new old.rows.stops row answered led.few led.begun led.more)

  -- the stop is one of the run, and the collector represents the run with it
  abbrev pub Goes : Type 0
  Goes = (rows : List CycleRow) × (stop : IsStop plan b.began b.state t row rows) × IsAfterStop script last (b.goes_on t row rows stop).run

  goes : answered ≡ answer_of plan t → Goes
  goes answers =
      let rows : List CycleRow = led.first ++ led.own in
      let stop : IsStop plan b.began b.state t row rows =
      whole_stop plan b.began b.state led.promoted led.closed led.ended t many led.first led.own row led.promotes led.closes led.ends
      led.proceeds row_is in
      let reported = b.goes_on t row rows stop in
      (rows, stop, still script last old.rows.rounds old.rows.stops (report_cycles old ++ rows) row t rounds_are stops_are led.cycles reported stands few answers)

  -- the end of the run
  pub done : has_left t.left ≡ false → is_idle t.progress ≡ true → answered ≡ Some end.Done → Goes
  done none quiet is = goes (is ∙ answers_done plan t none quiet)

  -- a round follows, since a cycle is in progress
  pub on : has_left t.left ≡ false → is_idle t.progress ≡ false → answered ≡ None → Goes
  on none busy is = goes (is ∙ answers_on plan t none busy)

  module _ (free reserve : ℕ) (some : has_left t.left ≡ true) (free_is : free ≡ free_count t) (reserve_is : reserve ≡ reserve_of plan) where
    -- a round follows, since commands are left
    pub goes_on : reserve ≤ free → answered ≡ None → Goes
    goes_on more is = goes (is ∙ answers_none plan t some (is_enough_by plan t free reserve some free_is reserve_is more))

    -- short of segments
    pub full : free < reserve → answered ≡ Some (end.HeapFull free reserve) → Goes
    full less is = goes (is ∙ answers_full plan t free reserve free_is reserve_is (is_short_by plan t free reserve some free_is reserve_is less))
