-- The steps of a stop, from its beginning on: after each the collector represents a state of the run at this stop.
use Rattle.nmgc_cycle.proofs.Vocabulary.{ℕ, ◌≡◌, ◌↔◌, ◌+◌, ◌<◌, ◌≤◌, List, ◌++◌, length, sym, ap, subst, ◌∙◌, arith, inl, inr, Bool, IsTrue, append_assoc, World, CycleRow, RoundRows, StopRow, Script, AreLeft, ClosesOrWaits, Promotes, EndsOrWaits, Proceeds, has_left, State, Progress, idle, marking, sweeping, phase_of, plan_of, layout_of, answered_count, Collector, Marking, Doing, HasTaken, Closes, HasClosed, Ends, BeginsThen, AreFew, HasMore, HasFinished, ProceedsThen, StandsAtStop, CanStop, IsWellFormed, Sweeps, seen, words_in, phase_in, sweeper_in, report_cycles, FitsRun, StandsPromoted, StandsWithin, StandsAt, HasStopLaws, HasPromoted, HasListed, SomeIsLeft, slice_index}
use Rattle.nmgc_journal.specs.declared.report.Phase.TheVariants as phase
use Rattle.nmgc_cycle.specs.declared.progress.Progress.TheVariants as doing
use Rattle.nmgc_cycle.proofs.stops.AfterPromotion as after
use Rattle.nmgc_cycle.proofs.{stops.Begins.Begins, stops.Begins.begins, cycles.FullCycle.full_due, cycles.FullCycle.proceeding_keeps, lengths.FullFew.fresh_where_due, lengths.FullFew.proceeding_few, lengths.FullFew.proceeding_begun, lengths.FullFew.proceeding_more, lengths.StopFew.promoting_few, lengths.StopFew.taking_few, lengths.StopFew.closing_few, lengths.StopFew.closing_goes, lengths.StopFew.ending_few, lengths.StopFew.ending_more, rounds.WhatIsLeft.left_is, stops.WholeStop.KeepsOn, stops.WholeStop.closing_keeps, stops.WholeStop.ending_keeps}
use Rattle.nmgc_cycle.proofs.stops.Promoting as promoting

-- the rows of rounds and stops, and the positions: a stop's steps don't change them
abbrev pub reported : Collector → List RoundRows × List StopRow × List ℕ
reported c = (c.rows.rounds, c.rows.stops, c.positions.items)

-- the end changes only the cycle and its row
end_reported : (stop : ℕ) (p : Doing) (old new : Collector) → Ends stop p old new → (reported new ≡ reported old) × (new.cycle.begun ≡ old.cycle.begun)
end_reported stop doing.Idle old new h = (ap reported h, ap (λ (x : Collector). x.cycle.begun) h)
end_reported stop (doing.Marking m) old new h = (ap reported h, ap (λ (x : Collector). x.cycle.begun) h)
end_reported stop (doing.Sweeping w) old new (inl h) = (ap reported h.1, ap (λ (x : Collector). x.cycle.begun) h.1)
end_reported stop (doing.Sweeping w) old new (inr h) = (ap reported h.1, ap (λ (x : Collector). x.cycle.begun) h.1)

begin_reported : (trigger stop : ℕ) (old new : Collector) → BeginsThen trigger stop old new → reported new ≡ reported old
begin_reported trigger stop old new (inl h) = ap reported h.1.is ∙ ap reported h.1.starts.rest
begin_reported trigger stop old new (inr h) = ap reported h.1

-- and so in a finish and a full cycle

finish_reported : (stop : ℕ) (old new : Collector) → HasFinished stop old new → reported new ≡ reported old
finish_reported stop old new f = (end_reported stop f.swept.cycle.progress f.swept new f.ends).0 ∙ ap reported f.sweeps.rest ∙ ap reported f.closes.rest

pub proceeding_reported : (trigger : ℕ) (some : Bool) (stop : ℕ) (old new : Collector) → ProceedsThen trigger some stop old new → reported new ≡ reported old
proceeding_reported trigger some stop old new (inl x) =
    let d = x.1 in
    ap reported d.is ∙ finish_reported stop d.started d.last d.again ∙ ap reported d.starts.is ∙ ap reported d.starts.starts.rest ∙ finish_reported stop old d.idled d.first
proceeding_reported trigger some stop old new (inr x) = begin_reported trigger stop old new x.1

-- the steps of a stop in the run, and the state to which they lead
pub record IsLed (script : Script) (began : World) (s : State) (many : ℕ) (old new : Collector) : Type 0 where
  pub promoted : State
  pub promotes : Promotes (layout_of (plan_of script)) began s promoted many
  pub closed : State
  pub closes : ClosesOrWaits script.config.quota promoted.progress promoted closed
  pub ended : State
  pub first : List CycleRow
  pub ends : EndsOrWaits closed.progress closed ended first
  pub state : State
  pub own : List CycleRow
  pub proceeds : Proceeds (plan_of script) ended state own
  pub cycles : report_cycles new ≡ report_cycles old ++ (first ++ own)
  pub stands : StandsAt script new state
  pub number : state.number ≡ s.number
  pub left : state.left ≡ s.left
  pub few : AreFew (Unit {0}) script new (length old.rows.stops + 1)
  pub begun : new.cycle.begun ≤ length old.rows.stops + 1
  pub more : HasMore new.cycle.progress

-- while a cycle marks, its sweeper has all waiting segments left
left_marking : (s : State) (c : Collector) (q : Progress) → phase_in c.cycle.progress ≡ phase_of q → Sweeps q s c → (m : Marking) →
    c.cycle.progress ≡ doing.Marking m → AreLeft c.heap.segments m.sweeper
left_marking s c idle e h m is = absurd (let bad : phase.Marking ≡ phase.Idle = ap phase_in (sym is) ∙ e in cc)
left_marking s c (marking k) e h m is = subst (λ (p : Doing). AreLeft c.heap.segments (sweeper_in p)) is h.0.left
left_marking s c (sweeping k closed) e h m is = subst (λ (p : Doing). AreLeft c.heap.segments (sweeper_in p)) is h.0

module _ (laws : HasStopLaws) (script : Script) (old p : Collector) (limits : FitsRun script) (can : CanStop script old) (h : HasPromoted old p)
    (listed : HasListed old p) where
  abbrev b : Begins script old
  b = begins script old limits can

  abbrev kept : IsWellFormed script old
  kept = after.kept_of script old can

  -- the state after the promotion
  abbrev pub first : State
  first = promoting.t laws.promotion script old p kept b h

  pub stands_first : StandsPromoted script p first
  stands_first = promoting.promoted_stands laws.promotion script old p kept b h listed

  -- few rounds follow
  few_first : AreFew (Unit {0}) script p (length old.rows.stops + 1)
  few_first = promoting_few script old p (length old.rows.stops + 1) (layout_of (plan_of script)) b.began b.state first (length p.heap.promotion.moves)
      (seen old).words (words_in p.heap.words) h (after.promotes script old p kept b h) b.stands stands_first.heap.holds.stands b.few

  module _ (a : Collector) (taken : HasTaken p a) where
    pub stands_within : StandsWithin script a first
    stands_within = laws.adding script p a first limits stands_first taken

    few_within : AreFew (Unit {0}) script a (length old.rows.stops + 1)
    few_within = taking_few script p a (length old.rows.stops + 1) (words_in p.heap.words) first.allocation stands_first.heap.holds.stands taken few_first

    module _ (number : ℕ) (number_is : number ≡ length old.rows.stops) (c : Collector) (closed : HasClosed Closes number a c) where
      pub close_led : (t : State) × ClosesOrWaits script.config.quota first.progress first t × StandsAt script c t
      close_led = laws.closing script a c first limits stands_within (subst (λ (n : ℕ). HasClosed Closes n a c) (number_is ∙ sym b.number) closed)

      closed_on : KeepsOn first close_led.0 × (close_led.0.allocation ≡ first.allocation)
      closed_on = closing_keeps script.config.quota first.progress first close_led.0 close_led.1

      few_closed : AreFew (Unit {0}) script c (length old.rows.stops + 1)
      few_closed =
          let count : length a.heap.segments.segments ≡ script.config.segments = cc (stands_within.kept.sound.count, stands_within.kept.layout) in
          closing_few script a c (length old.rows.stops + 1) number (words_in a.heap.words) first.allocation stands_within.heap.holds.stands count
          (left_marking first a first.progress stands_within.matches.phase stands_within.sweeper) closed few_within

      module _ (e : Collector) (ends : Ends number c.cycle.progress c e) where
        pub end_led : (t : State) × (rows : List CycleRow) × EndsOrWaits close_led.0.progress close_led.0 t rows ×
            (report_cycles e ≡ report_cycles c ++ rows) × StandsAt script e t
        end_led = laws.ending script c e close_led.0 limits close_led.2 (rw (number_is ∙ sym b.number ∙
            sym closed_on.0.number) at ends)

        ended_on : KeepsOn close_led.0 end_led.0 × (end_led.0.allocation ≡ close_led.0.allocation)
        ended_on = ending_keeps close_led.0.progress close_led.0 end_led.0 end_led.1 end_led.2

        -- the state in which the next cycle may begin
        abbrev pub last_ended : State
        last_ended = end_led.0

        pub stands_ended : StandsAt script e last_ended
        stands_ended = end_led.4

        -- no cycle began yet
        pub begun_is : e.cycle.begun ≡ old.cycle.begun
        begun_is = (end_reported number c.cycle.progress c e ends).1 ∙ ap (λ (x : Collector). x.cycle.begun) closed.rest ∙
            ap (λ (x : Collector). x.cycle.begun) taken.rest ∙ ap (λ (x : Collector). x.cycle.begun) h.rest

        few_ended : AreFew (Unit {0}) script e (length old.rows.stops + 1)
        few_ended = ending_few script c e (length old.rows.stops + 1) number ends few_closed

        more_ended : HasMore e.cycle.progress
        more_ended = ending_more script c e (length old.rows.stops + 1) number ends (closing_goes number a c closed)

        -- no row was added yet
        pub ended_reported : reported e ≡ reported old
        ended_reported = (end_reported number c.cycle.progress c e ends).0 ∙ ap reported closed.rest ∙ ap reported taken.rest ∙ ap reported h.rest

        left_on : last_ended.left ≡ b.state.left
        left_on = ended_on.0.left ∙ closed_on.0.left

        number_on : last_ended.number ≡ b.state.number
        number_on = ended_on.0.number ∙ closed_on.0.number

        -- the collector represents a state at this stop
        pub at_this_stop : StandsAtStop number e
        at_this_stop = (script, last_ended, limits, number_on ∙ b.number ∙ sym number_is, stands_ended)

        module _ (n : Collector) (some : Bool) (some_is : IsTrue some ↔
            SomeIsLeft script.threads e.positions.items) (proceeds : ProceedsThen script.config.trigger some number e n) where
          -- commands are left, by the number answered of each program
          result_with : some ≡ has_left b.state.left
          result_with =
              let positions : (k : ℕ) → k < length script.threads →
              slice_index e.positions.items k ≡ answered_count old.rows.rounds k = λ k lt. stands_ended.kept.positions k lt ∙
              ap (λ (x : List RoundRows × List StopRow × List ℕ). answered_count x.0 k) ended_reported in
              sym (left_is script old.rows.rounds b.state.left e.positions.items b.left positions some some_is)

          left_ended : some ≡ has_left last_ended.left
          left_ended = result_with ∙ ap has_left (sym left_on)

          proceed_led : (t : State) × (rows : List CycleRow) × Proceeds (plan_of script) last_ended t rows ×
              (report_cycles n ≡ report_cycles e ++ rows) × StandsAt script n t
          proceed_led = laws.proceeding script e n last_ended some limits stands_ended left_ended (rw (number_is ∙ sym b.number ∙ sym number_on) at proceeds)

          proceeded_on : KeepsOn last_ended proceed_led.0
          proceeded_on = proceeding_keeps (plan_of script) last_ended proceed_led.0 proceed_led.1 proceed_led.2

          proceeded_reported : reported n ≡ reported e
          proceeded_reported = proceeding_reported script.config.trigger some number e n proceeds

          pub rounds_are : n.rows.rounds ≡ old.rows.rounds
          rounds_are = ap (λ (x : List RoundRows × List StopRow × List ℕ). x.0) (proceeded_reported ∙ ended_reported)

          pub stops_are : n.rows.stops ≡ old.rows.stops
          stops_are = ap (λ (x : List RoundRows × List StopRow × List ℕ). x.1) (proceeded_reported ∙ ended_reported)

          pub led : IsLed script b.began b.state (length p.heap.promotion.moves) old n
          led = record {
            promoted = first;
            promotes = after.promotes script old p kept b h;
            closed = close_led.0;
            closes = close_led.1;
            ended = last_ended;
            first = end_led.1;
            ends = end_led.2;
            state = proceed_led.0;
            own = proceed_led.1;
            proceeds = proceed_led.2;
            cycles =
                let before : report_cycles c ≡ report_cycles old = ap report_cycles closed.rest ∙ ap report_cycles taken.rest ∙ ap report_cycles h.rest in
                let ended_cycles : report_cycles e ≡ report_cycles old ++ end_led.1 = end_led.3 ∙ ap (λ (rows : List CycleRow). rows ++ end_led.1) before in
                proceed_led.3 ∙ ap (λ (rows : List CycleRow). rows ++ proceed_led.1) ended_cycles ∙ append_assoc (report_cycles old) end_led.1 proceed_led.1;
            stands = proceed_led.4;
            number = proceeded_on.number ∙ number_on;
            left = proceeded_on.left ∙ left_on;
            few = proceeding_few script e n (length old.rows.stops + 1) number some proceed_led.0 stands_ended.kept.layout (λ none.
                (laws.begin_ready script e last_ended limits stands_ended none).stood) (words_in n.heap.words) proceed_led.4.heap.holds.stands proceeds
                few_ended (ap (λ (x : List RoundRows × List StopRow × List ℕ). x.0) proceeded_reported) (λ due.
                fresh_where_due (plan_of script) last_ended proceed_led.0 proceed_led.1 proceed_led.2
                (full_due script e last_ended some stands_ended left_ended due));
            begun = (let own_begun = proceeding_begun script.config.trigger some number e n proceeds in let before = begun_is in
                let few = b.begun in omega (arith, own_begun, before, few));
            more = proceeding_more script.config.trigger some number e n proceeds more_ended;
          }
