-- The answer of a stop and its reason, by the steps of the stop and the values read at its end.
use Rattle.nmgc_cycle.proofs.Vocabulary.{ℕ, ◌≡◌, ◌<◌, ◌≤◌, ◌⊎◌, ◌↔◌, List, [], ◌∷◌, ◌++◌, length, refl, sym, ap, subst, ◌∙◌, arith, inl, inr, Bool, true, false, Option, IsTrue, count_by, Segment, reserve_count, is, counts_stand, CycleRow, End, Phase, RoundRows, StopRow, Script, Run, Turn, with_turn, has_left, run_free, reserve_of, plan_of, answered_count, stop_row, Collector, StopEnd, HasTaken, Closes, HasClosed, Ends, ProceedsThen, CanStop, IsAfterStop, HasStopped, HasAnswered, HasWorked, StopsAfter, phase_in, words_in, FitsRun, HasStopLaws, HasPromoted, HasListed, SomeIsLeft, IsDone, IsHeapFullAt, ended_by, slice_index}
use Rattle.nmgc_segment.specs.declared.state.State.TheVariants as stands
use Rattle.nmgc_journal.specs.declared.report.Phase.TheVariants as phase
use Rattle.nmgc_cycle.specs.declared.stop.StopEnd.TheVariants as answer
use Rattle.nmgc_cycle.proofs.{stops.Begins.Begins, stops.Begins.begins, stops.Begins.one_turn, lists.Phases.when_idle, stops.StopAnswers.Goes, stops.StopAnswers.done, stops.StopAnswers.on, stops.StopAnswers.goes_on, stops.StopAnswers.full, stops.StopSteps.IsLed, stops.StopSteps.proceeding_reported, stops.Stopped.row_is, stops.Stopped.quiet_then, stops.Stopped.busy_then, rounds.WhatIsLeft.left_is}
use Rattle.nmgc_cycle.proofs.stops.StopSteps as steps

-- the effects of a stop's calls, one after another
pub record IsStepped (script : Script) (old new : Collector) : Type 0 where
  pub number : ℕ
  pub number_is : number ≡ length old.rows.stops
  pub promoted : Collector
  pub promotes : HasPromoted old promoted
  pub lists : HasListed old promoted
  pub added : Collector
  pub adds : HasTaken promoted added
  pub closed : Collector
  pub closes : HasClosed Closes number added closed
  pub ended : Collector
  pub ends : Ends number closed.cycle.progress closed ended
  pub some : Bool
  pub some_is : IsTrue some ↔ SomeIsLeft script.threads ended.positions.items
  pub proceeds : ProceedsThen script.config.trigger some number ended new

-- the values read of the collector then: whether commands are left, its phase, and the counts of segments by state
pub record IsRead (script : Script) (c : Collector) : Type 0 where
  pub left : Bool
  pub left_is : IsTrue left ↔ SomeIsLeft script.threads c.positions.items
  pub phase : Phase
  pub phase_is : phase ≡ phase_in c.cycle.progress
  pub free : ℕ
  pub free_is : free ≡ count_by (λ (segment : Segment). is segment.state stands.Free) c.heap.segments.segments
  pub filled : ℕ
  pub filled_is : filled ≡ count_by (λ (segment : Segment). is segment.state stands.Filled) c.heap.segments.segments
  pub sweep : ℕ
  pub sweep_is : sweep ≡ count_by (λ (segment : Segment). is segment.state stands.Sweeping) c.heap.segments.segments
  pub reserve : ℕ
  pub reserve_is : reserve ≡ reserve_count c.heap.segments.layout

-- commands are left if they were before the last step of the stop
pub some_left_then : (script : Script) (old new : Collector) (trigger stop : ℕ) (some : Bool) → ProceedsThen trigger some stop old new →
    IsTrue some ↔ SomeIsLeft script.threads old.positions.items → IsTrue some ↔ SomeIsLeft script.threads new.positions.items
some_left_then script old new trigger stop some proceeds is =
    let same : new.positions.items ≡ old.positions.items = ap (λ (x : List RoundRows × List StopRow × List ℕ).
    x.2) (proceeding_reported trigger some stop old new proceeds) in
    subst (λ (positions : List ℕ). IsTrue some ↔ SomeIsLeft script.threads positions) (sym same) is

-- the reason for its answer
abbrev pub Why : (script : Script) (c : Collector) → IsRead script c → StopEnd → Type 0
Why script c r (answer.HeapFull free reserve) = (free ≡ r.free) × (reserve ≡ r.reserve) × (r.left ≡ true) × (r.free < r.reserve)
Why script c r answer.Done = (r.left ≡ false) × (phase_in c.cycle.progress ≡ phase.Idle)
Why script c r answer.GoOn = ((r.left ≡ true) × (r.reserve ≤ r.free)) ⊎ ((r.left ≡ false) × (phase_in c.cycle.progress ≡ phase.Idle → ⊥))

-- the answer and its causes

module _ (script : Script) (c : Collector) (r : IsRead script c) where
  -- commands are left exactly if that was read
  none_left : r.left ≡ false → SomeIsLeft script.threads c.positions.items → ⊥
  none_left none some = let bad : false ≡ true = sym none ∙ r.left_is.1 some in cc

  some_left : r.left ≡ true → (SomeIsLeft script.threads c.positions.items → ⊥) → ⊥
  some_left some none = none (r.left_is.0 some)

  -- it isn't full unless that was read
  not_full : (free reserve : ℕ) → r.reserve ≤ r.free → IsHeapFullAt script c free reserve → ⊥
  not_full free reserve more h =
      let free_is = h.free_is in
      let reserve_is = h.reserve_is in
      let less = h.less in
      let own = r.free_is in
      let kept = r.reserve_is in
      omega (arith, free_is, reserve_is, less, own, kept, more)

  pub done_where : (e : StopEnd) → Why script c r e → (e ≡ answer.Done) ↔ IsDone script c
  done_where answer.Done why = ((λ e. (none_left why.0, when_idle c.cycle.progress why.1)), λ d. refl)
  done_where (answer.HeapFull free reserve) why = (
    (λ e. absurd (let bad : answer.HeapFull free reserve ≡ answer.Done = e in cc)),
    λ d. absurd (some_left why.2 d.0),
  )
  done_where answer.GoOn (inl why) = ((λ e. absurd (let bad : answer.GoOn ≡ answer.Done = e in cc)), λ d. absurd (some_left why.0 d.0))
  done_where answer.GoOn (inr why) = ((λ e. absurd (let bad : answer.GoOn ≡ answer.Done = e in cc)), λ d. absurd (why.1 (ap phase_in d.1)))

  pub full_where : (e : StopEnd) → Why script c r e → (free reserve : ℕ) → (e ≡ answer.HeapFull free reserve) ↔ IsHeapFullAt script c free reserve
  full_where answer.Done why free reserve = (
    (λ e. absurd (let bad : answer.Done ≡ answer.HeapFull free reserve = e in cc)),
    λ h. absurd (none_left why.0 h.left),
  )
  full_where (answer.HeapFull f g) why free reserve = (to, back)
    where
      to : answer.HeapFull f g ≡ answer.HeapFull free reserve → IsHeapFullAt script c free reserve
      to e =
          let free_is : f ≡ free = cc in
          let reserve_is : g ≡ reserve = cc in
          let less = why.3 in
          let own = why.0 in
          let kept = why.1 in
          record {
            left = r.left_is.0 why.2;
            free_is = sym free_is ∙ own ∙ r.free_is;
            reserve_is = sym reserve_is ∙ kept ∙ r.reserve_is;
            less = omega (arith, free_is, reserve_is, less, own, kept);
          }

      back : IsHeapFullAt script c free reserve → answer.HeapFull f g ≡ answer.HeapFull free reserve
      back h = cc (why.0, r.free_is, h.free_is, why.1, r.reserve_is, h.reserve_is)
  full_where answer.GoOn (inl why) free reserve = (
    (λ e. absurd (let bad : answer.GoOn ≡ answer.HeapFull free reserve = e in cc)),
    λ h. absurd (not_full free reserve why.1 h),
  )
  full_where answer.GoOn (inr why) free reserve = (
    (λ e. absurd (let bad : answer.GoOn ≡ answer.HeapFull free reserve = e in cc)),
    λ h. absurd (none_left why.0 h.left),
  )

-- the run

module _ (laws : HasStopLaws) (script : Script) (old new : Collector) (limits : FitsRun script) (x : IsStepped script old new)
    (r : IsRead script new) (many : ℕ) (many_is : many ≡ length x.promoted.heap.promotion.moves) where
  abbrev pub row : StopRow
  row = record { number = x.number; phase = r.phase; free = r.free; filled = r.filled; sweep = r.sweep; promoted = many }

  module _ (stops : List StopRow) (answered : Option End) (pushed : stops ≡ new.rows.stops ++ row ∷ []) where
    abbrev pub after : Collector
    after = record new { rows = record new.rows { stops = stops }; answered = answered }

    module _ (can : CanStop script old) where
      abbrev b : Begins script old
      b = begins script old limits can

      led : IsLed script b.began b.state (length x.promoted.heap.promotion.moves) old new
      led = steps.led laws script old x.promoted limits can x.promotes x.lists x.added x.adds x.number x.number_is x.closed x.closes x.ended x.ends
          new x.some x.some_is x.proceeds

      pub rounds_are : new.rows.rounds ≡ old.rows.rounds
      rounds_are = steps.rounds_are laws script old x.promoted limits can x.promotes x.lists x.added x.adds x.number x.number_is x.closed x.closes
          x.ended x.ends new x.some x.some_is x.proceeds

      pub stops_are : stops ≡ old.rows.stops ++ row ∷ []
      stops_are = cc (
        pushed,
        steps.stops_are laws script old x.promoted limits can x.promotes x.lists x.added x.adds x.number x.number_is x.closed x.closes x.ended x.ends new x.some x.some_is x.proceeds,
      )

      reported : row ≡ stop_row led.state (length x.promoted.heap.promotion.moves)
      reported = row_is led.state (length x.promoted.heap.promotion.moves) x.number r.free r.filled r.sweep many r.phase new.heap.segments (words_in new.heap.words)
          led.stands.heap.holds.stands (r.phase_is ∙ led.stands.matches.phase) (led.number ∙ b.number ∙
          sym x.number_is) r.free_is r.filled_is r.sweep_is many_is

      left : has_left led.state.left ≡ r.left
      left =
          let positions : (k : ℕ) → k < length script.threads →
          slice_index new.positions.items k ≡ answered_count old.rows.rounds k = λ k lt. led.stands.kept.positions k lt ∙
          ap (λ (rounds : List RoundRows). answered_count rounds k) rounds_are in
          ap has_left led.left ∙ left_is script old.rows.rounds b.state.left new.positions.items b.left positions r.left r.left_is

      free_is : r.free ≡ run_free led.state
      free_is = r.free_is ∙ counts_stand new.heap.segments (words_in new.heap.words) led.state.allocation stands.Free led.stands.heap.holds.stands

      reserve_is : r.reserve ≡ reserve_of (plan_of script)
      reserve_is = r.reserve_is ∙ ap reserve_count led.stands.kept.layout

      -- the answer is the run's
      result : (e : StopEnd) → Why script new r e → answered ≡ ended_by e →
          Goes script old new b (length x.promoted.heap.promotion.moves) led rounds_are stops answered row stops_are reported
      result answer.Done why is = done script old new b (length x.promoted.heap.promotion.moves) led rounds_are stops answered row stops_are reported (left ∙
          why.0) (quiet_then led.state.progress (sym led.stands.matches.phase ∙ why.1)) is
      result answer.GoOn (inl why) is =
          goes_on script old new b (length x.promoted.heap.promotion.moves) led rounds_are stops answered row stops_are reported r.free r.reserve (left ∙
          why.0) free_is reserve_is why.1 is
      result answer.GoOn (inr why) is =
          on script old new b (length x.promoted.heap.promotion.moves) led rounds_are stops answered row stops_are reported (left ∙
          why.0) (busy_then led.state.progress (λ e. why.1 (led.stands.matches.phase ∙ e))) is
      result (answer.HeapFull free reserve) why is =
          let same : answered ≡ ended_by (answer.HeapFull r.free r.reserve) = cc (is, why.0, why.1) in
          full script old new b (length x.promoted.heap.promotion.moves) led rounds_are stops answered row stops_are reported r.free r.reserve (left ∙
          why.2) free_is reserve_is why.3 same

      has_stopped : (e : StopEnd) → Why script new r e → answered ≡ ended_by e → HasStopped script after
      has_stopped e why is = let h = result e why is in ((b.goes_on led.state row h.0 h.1).run, h.2)

      pub has_answered : (e : StopEnd) → Why script new r e → answered ≡ ended_by e → HasAnswered script after e
      has_answered answer.GoOn why is = (has_stopped answer.GoOn why is, is)
      has_answered answer.Done why is = (has_stopped answer.Done why is, is)
      has_answered (answer.HeapFull free reserve) why is = (has_stopped (answer.HeapFull free reserve) why is, is)

    -- after a round, the run is the earlier run with this round and its stop

    one_more : (w : HasWorked script old) (rows : List CycleRow) (stop : _) →
        IsAfterStop script after ((begins script old limits (inr w)).goes_on (led (inr w)).state row rows stop).run → (turn : Turn) ×
        (turn.replies ≡ record { replies = w.replies }) × (turn.worked ≡ w.worked) × (turn.history ≡ w.history) ×
        IsAfterStop script after (with_turn w.run turn)
    one_more w rows stop still =
        let turn = one_turn script old limits w (led (inr w)).state row rows stop in
        (turn.0, turn.1, turn.2, turn.3, subst (λ (run : Run). IsAfterStop script after run) turn.4 still)

    pub stops_after : (e : StopEnd) → Why script new r e → answered ≡ ended_by e → StopsAfter script old after
    stops_after e why is = λ w. let h = result (inr w) e why is in one_more w h.0 h.1 h.2
