use Rattle.nmgc_cycle.proofs.{Vocabulary.◌≡◌, Vocabulary.List, Vocabulary.length, Vocabulary.arith, Vocabulary.refl, Vocabulary.sym, Vocabulary.ap, Vocabulary.subst, Vocabulary.◌∙◌, Vocabulary.inl, Vocabulary.inr, Vocabulary.true, Vocabulary.false, Vocabulary.same_true, Vocabulary.same_false, Vocabulary.reserve_count, Vocabulary.the_type, Vocabulary.Idle, Vocabulary.StopRow, Vocabulary.RoundRows, Vocabulary.StopEnd, Vocabulary.Collector, Vocabulary.Script, Vocabulary.FitsRun, Vocabulary.CanStop, Vocabulary.HandsOn, Vocabulary.seen, stops.AddingLeads.can_add, stops.Begins.begins, stops.Counted.stop_counts, stops.Counted.stop_counts_upper, stops.Handing.count_is, stops.Handing.handed_after, stops.Handing.handed_twice, lengths.Few.stop_fits, rounds.InboxOn.lines_of, stops.MarksOn.marks_on, starts.NewStops.stopped_in, lists.Plans.is_runnable, lists.Plans.sound_state, Vocabulary.ℕ, Vocabulary.◌↔◌, Vocabulary.IsTrue, Vocabulary.SomeIsLeft, Vocabulary.ProceedsThen, stops.StopEnds.IsStepped, stops.StopEnds.IsRead, stops.StopEnds.Why, stops.StopEnds.row, stops.StopEnds.some_left_then, stops.StopEnds.rounds_are, stops.StopEnds.stops_are, stops.StopEnds.has_answered, stops.StopEnds.stops_after, stops.StopEnds.done_where, stops.StopEnds.full_where, stops.Tried.stop_turns, collector.Collector.do_stop.Given.Over, collector.Collector.do_stop.Goals.then-left+then-free-reserve, collector.Collector.do_stop.Goals.else-left+then-not-left+then-eq, collector.Collector.do_stop.Goals.else-left-via-then-left+else-free-reserve, collector.Collector.do_stop.Goals.else-left-via-else-left, collector.Collector.do_stop.Goals.else-left+else-not-left, collector.Collector.do_stop.Goals.else-not-left-via-then-not-left+else-eq, collector.Collector.do_stop.Goals.else-not-left-via-else-not-left}
use Rattle.nmgc_cycle.specs.declared.stop.StopEnd.TheVariants as answer
use Rattle.nmgc_cycle.proofs.stops.AfterPromotion as after
use Rattle.nmgc_cycle.proofs.stops.StopSteps as steps
use Rattle.nmgc_cycle.proofs.collector.Collector.do_stop.Goals as goal

true_isnt : true ≡ false → ⊥
true_isnt e = cc

pub overflow_cast-number : goal.overflow_cast-number
overflow_cast-number g c =
    let few = (stop_fits c.args.script.now.value c.args.self.now c.requires.limits c.requires.can).number in
    let same = c.count-number.ensures in
    omega (arith, few, same)

pub promote-requires-clause-entries : goal.promote-requires-clause-entries
promote-requires-clause-entries g c = (after.kept_of c.args.script.now.value c.args.self.now c.requires.can).entries

pub promote-requires-clause-stopped : goal.promote-requires-clause-stopped
promote-requires-clause-stopped g c =
    let b = begins c.args.script.now.value c.args.self.now c.requires.limits c.requires.can in
    (stopped_in b.began b.state b.places (seen c.args.self.now), b.stopped, b.can_list)

pub add_remembered-requires-clause-lines : goal.add_remembered-requires-clause-lines
add_remembered-requires-clause-lines g c =
    lines_of c.args.script.now.value c.promote.new.self (is_runnable c.args.script.now.value c.requires.limits).few
    (steps.stands_first c.a_stop_leads.ensures c.args.script.now.value c.args.self.now c.promote.new.self c.requires.limits c.requires.can
    c.in_ok-promoted.ensures.promoted c.in_ok-promoted.ensures.listed).kept

pub add_remembered-requires-clause-can : goal.add_remembered-requires-clause-can
add_remembered-requires-clause-can g c =
    can_add c.args.script.now.value c.promote.new.self _ (steps.stands_first c.a_stop_leads.ensures c.args.script.now.value c.args.self.now c.promote.new.self
    c.requires.limits c.requires.can c.in_ok-promoted.ensures.promoted c.in_ok-promoted.ensures.listed)

pub try_close-requires-clause-can : goal.try_close-requires-clause-can
try_close-requires-clause-can g c =
    c.a_stop_leads.ensures.close_ready c.args.script.now.value c.add_remembered.new.self _ c.requires.limits
    (steps.stands_within c.a_stop_leads.ensures c.args.script.now.value c.args.self.now c.promote.new.self c.requires.limits c.requires.can
    c.in_ok-promoted.ensures.promoted c.in_ok-promoted.ensures.listed c.add_remembered.new.self c.add_remembered.ensures)

pub do_due_cycle-requires-clause-stands : goal.do_due_cycle-requires-clause-stands
do_due_cycle-requires-clause-stands g c κs within =
    steps.at_this_stop c.a_stop_leads.ensures c.args.script.now.value c.args.self.now c.promote.new.self c.requires.limits c.requires.can
    c.in_ok-promoted.ensures.promoted c.in_ok-promoted.ensures.listed c.add_remembered.new.self c.add_remembered.ensures
    c.count-number.result (count_is (length c.args.self.now.rows.stops) c.count-number.result c.count-number.ensures (stop_fits c.args.script.now.value c.args.self.now c.requires.limits c.requires.can).number) c.try_close.new.self c.try_close.ensures c.try_end.new.self c.in_ok-try_end.ensures.ends

pub do_due_cycle-requires-clause-number : goal.do_due_cycle-requires-clause-number
do_due_cycle-requires-clause-number g c κs within =
    let few = (stop_fits c.args.script.now.value c.args.self.now c.requires.limits c.requires.can).begun in
    let same = steps.begun_is c.a_stop_leads.ensures c.args.script.now.value c.args.self.now c.promote.new.self c.requires.limits c.requires.can
    c.in_ok-promoted.ensures.promoted c.in_ok-promoted.ensures.listed c.add_remembered.new.self c.add_remembered.ensures
    c.count-number.result (count_is (length c.args.self.now.rows.stops) c.count-number.result c.count-number.ensures (stop_fits c.args.script.now.value c.args.self.now c.requires.limits c.requires.can).number) c.try_close.new.self c.try_close.ensures c.try_end.new.self c.in_ok-try_end.ensures.ends in
    omega (arith, few, same)

-- the steps of the stop, the values read at its end, and the reason for its answer

-- the positions stay, so `left` still says whether any program has commands left
left_at_end : (g : Over) (c : goal.After-self-1 g) → IsTrue c.args.left ↔ SomeIsLeft c.args.script.now.value.threads c.try_end.new.self.positions.items
left_at_end g c = subst (λ (l : List ℕ). IsTrue c.args.left ↔ SomeIsLeft c.args.script.now.value.threads l)
    (sym (ap (λ (x : List RoundRows × List StopRow × List ℕ). x.2) (steps.ended_reported c.a_stop_leads.ensures c.args.script.now.value c.args.self.now c.promote.new.self c.requires.limits c.requires.can
    c.in_ok-promoted.ensures.promoted c.in_ok-promoted.ensures.listed c.add_remembered.new.self c.add_remembered.ensures c.count-number.result
    (count_is (length c.args.self.now.rows.stops) c.count-number.result c.count-number.ensures (stop_fits c.args.script.now.value c.args.self.now c.requires.limits c.requires.can).number) c.try_close.new.self c.try_close.ensures c.try_end.new.self c.in_ok-try_end.ensures.ends))) c.requires.left

-- the cycle goes on by the script's own trigger
proceeds_by : (g : Over) (c : goal.After-self-1 g) → ProceedsThen c.args.script.now.value.config.trigger c.args.left c.count-number.result
    c.try_end.new.self c.do_due_cycle.new.self
proceeds_by g c = subst (λ (n : ℕ). ProceedsThen n c.args.left c.count-number.result c.try_end.new.self c.do_due_cycle.new.self) c.requires.trigger
    c.in_ok-do_due_cycle.ensures.proceeds

stepped : (g : Over) (c : goal.After-self-1 g) → IsStepped c.args.script.now.value c.args.self.now c.do_due_cycle.new.self
stepped g c = record {
  number = c.count-number.result;
  number_is = count_is (length c.args.self.now.rows.stops) c.count-number.result c.count-number.ensures (stop_fits c.args.script.now.value c.args.self.now c.requires.limits c.requires.can).number;
  promoted = c.promote.new.self;
  promotes = c.in_ok-promoted.ensures.promoted;
  lists = c.in_ok-promoted.ensures.listed;
  added = c.add_remembered.new.self;
  adds = c.add_remembered.ensures;
  closed = c.try_close.new.self;
  closes = c.try_close.ensures;
  ended = c.try_end.new.self;
  ends = c.in_ok-try_end.ensures.ends;
  some = c.args.left;
  some_is = left_at_end g c;
  proceeds = proceeds_by g c;
}

read : (g : Over) (c : goal.After-self-1 g) → IsRead c.args.script.now.value c.do_due_cycle.new.self
read g c = record {
  left = c.args.left;
  left_is = some_left_then c.args.script.now.value c.try_end.new.self c.do_due_cycle.new.self c.args.script.now.value.config.trigger c.count-number.result
      c.args.left (proceeds_by g c) (left_at_end g c);
  phase = c.phase.result;
  phase_is = c.phase.ensures;
  free = c.free_count-free.result;
  free_is = c.free_count-free.ensures;
  filled = c.filled_count.result;
  filled_is = c.filled_count.ensures;
  sweep = c.sweep_count.result;
  sweep_is = c.sweep_count.ensures;
  reserve = c.reserve-reserve.result;
  reserve_is = c.reserve-reserve.ensures ∙ ap reserve_count c.layout.ensures.layout;
}

why : (g : Over) (c : goal.After-self-1 g) → Why c.args.script.now.value c.do_due_cycle.new.self (read g c) c.if-left.end
unfolding read
why g c =
    let because : StopEnd → Type 0 = λ (e : StopEnd). Why c.args.script.now.value c.do_due_cycle.new.self (read g c) e in
    elim c.if-left.branch [
      | then-left+then-free-reserve w ↦ subst because (sym w.end-is) (refl, refl, w.if-left.true, w.if-free-reserve.true)
      | else-left+then-not-left+then-eq w ↦
          let quiet = same_true the_type tt w.phase-then-not-left.result Idle (sym w.eq.ensures ∙ w.if-eq.true) in
          subst because (sym w.end-is) (w.if-not-left.true, sym w.phase-then-not-left.ensures ∙ quiet)
      | else-left+else-not-left w ↦
          let goes_on : because answer.GoOn = elim w.else-left.branch [
            | else-left-via-then-left+else-free-reserve v ↦ inl (v.if-left.true, v.if-free-reserve.false)
            | else-left-via-else-left v ↦
                let none : c.args.left ≡ false = v.if-left.false in
                let busy : because answer.GoOn = elim w.else-not-left.branch [
                  | else-not-left-via-then-not-left+else-eq u ↦ inr (
                    none,
                    λ e. same_false the_type u.phase-then-not-left.result Idle (sym u.eq.ensures ∙ u.if-eq.false) (u.phase-then-not-left.ensures ∙ e),
                  )
                  | else-not-left-via-else-not-left u ↦
                      let some : c.args.left ≡ true = u.if-not-left.false in
                      absurd (true_isnt (sym some ∙ none))
                ] in
                busy
          ] in
          subst because (sym w.end-is) goes_on
    ]

pub returns-clause-answered : goal.returns-clause-answered
unfolding stepped read
returns-clause-answered g c =
    has_answered c.a_stop_leads.ensures c.args.script.now.value c.args.self.now c.do_due_cycle.new.self c.requires.limits (stepped g c) (read g c)
    c.in_ok-promoted.promoted c.in_ok-promoted.ensures.many c.note.new.self c.end_of_answer-self.result c.note.ensures c.requires.can c.if-left.end
    (why g c) c.end_of_answer-self.ensures

pub returns-clause-after : goal.returns-clause-after
unfolding stepped read
returns-clause-after g c =
    stops_after c.a_stop_leads.ensures c.args.script.now.value c.args.self.now c.do_due_cycle.new.self c.requires.limits (stepped g c) (read g c)
    c.in_ok-promoted.promoted c.in_ok-promoted.ensures.many c.note.new.self c.end_of_answer-self.result c.note.ensures c.if-left.end (why g c)
    c.end_of_answer-self.ensures

pub returns-clause-done : goal.returns-clause-done
returns-clause-done g c =
    let h = done_where c.args.script.now.value c.do_due_cycle.new.self (read g c) c.if-left.end (why g c) in
    (λ e. let d = h.0 e in (d.0, d.1), λ d. h.1 (d.0, d.1))

pub returns-clause-full : goal.returns-clause-full
returns-clause-full g c = λ free reserve.
    let h = full_where c.args.script.now.value c.do_due_cycle.new.self (read g c) c.if-left.end (why g c) free reserve in (
      λ e. let f = h.0 e in record { left = f.left; free_is = f.free_is; reserve_is = f.reserve_is; less = f.less },
      λ f. h.1 (record { left = f.left; free_is = f.free_is; reserve_is = f.reserve_is; less = f.less }),
    )

pub returns-clause-marks_on : goal.returns-clause-marks_on
unfolding stepped
returns-clause-marks_on g c = marks_on c.args.script.now.value c.args.self.now c.do_due_cycle.new.self (stepped g c)

pub returns-clause-rounds : goal.returns-clause-rounds
unfolding stepped read
returns-clause-rounds g c =
    rounds_are c.a_stop_leads.ensures c.args.script.now.value c.args.self.now c.do_due_cycle.new.self c.requires.limits (stepped g c) (read g c)
    c.in_ok-promoted.promoted c.in_ok-promoted.ensures.many c.note.new.self c.end_of_answer-self.result c.note.ensures c.requires.can

pub returns-clause-stops : goal.returns-clause-stops
unfolding stepped read
returns-clause-stops g c = (
  row c.a_stop_leads.ensures c.args.script.now.value c.args.self.now c.do_due_cycle.new.self c.requires.limits (stepped g c) (read g c)
      c.in_ok-promoted.promoted c.in_ok-promoted.ensures.many,
  stops_are c.a_stop_leads.ensures c.args.script.now.value c.args.self.now c.do_due_cycle.new.self c.requires.limits (stepped g c) (read g c)
      c.in_ok-promoted.promoted c.in_ok-promoted.ensures.many c.note.new.self c.end_of_answer-self.result c.note.ensures c.requires.can,
  refl,
  count_is (length c.args.self.now.rows.stops) c.count-number.result c.count-number.ensures (stop_fits c.args.script.now.value c.args.self.now c.requires.limits c.requires.can).number,
)

pub returns-clause-cycles : goal.returns-clause-cycles
returns-clause-cycles g c =
    let n = c.count-number.result in
    subst (λ (stop : ℕ). HandsOn stop c.args.self.now.rows.cycles c.do_due_cycle.new.self.rows.cycles c.args.rows.now.cycles c.do_due_cycle.new.rows)
    (count_is (length c.args.self.now.rows.stops) c.count-number.result c.count-number.ensures (stop_fits c.args.script.now.value c.args.self.now c.requires.limits c.requires.can).number)
    (handed_twice n c.args.self.now.rows.cycles c.try_end.new.self.rows.cycles c.do_due_cycle.new.self.rows.cycles
    c.args.rows.now.cycles c.try_end.new.rows c.do_due_cycle.new.rows
    (handed_after n c.args.self.now c.try_close.new.self c.try_end.new.self c.args.rows.now.cycles c.try_end.new.rows
    (ap (λ (x : Collector). x.rows.cycles) c.try_close.ensures.rest ∙ ap (λ (x : Collector). x.rows.cycles) c.add_remembered.ensures.rest ∙
    ap (λ (x : Collector). x.rows.cycles) c.in_ok-promoted.ensures.promoted.rest) c.in_ok-try_end.ensures.handed) c.in_ok-do_due_cycle.ensures.handed)

pub returns-clause-mutator_turns : goal.returns-clause-mutator_turns
unfolding stepped
returns-clause-mutator_turns g c = stop_turns c.args.script.now.value c.args.self.now c.do_due_cycle.new.self (stepped g c)

pub returns-clause-turns : goal.returns-clause-turns
unfolding stepped
returns-clause-turns g c = stop_counts c.args.script.now.value c.args.self.now c.do_due_cycle.new.self (stepped g c)

pub returns-clause-upper_turns : goal.returns-clause-upper_turns
unfolding stepped
returns-clause-upper_turns g c = stop_counts_upper c.args.script.now.value c.args.self.now c.do_due_cycle.new.self (stepped g c)

pub returns-clause-freed : goal.returns-clause-freed
returns-clause-freed g c = λ run still. (sound_state c.args.script.now.value _ run c.requires.limits still).blocks

pub returns-clause-positions : goal.returns-clause-positions
returns-clause-positions g c = ap (λ (x : List RoundRows × List StopRow × List ℕ). x.2) (steps.proceeding_reported c.args.trigger c.args.left c.count-number.result c.try_end.new.self
    c.do_due_cycle.new.self c.in_ok-do_due_cycle.ensures.proceeds ∙ steps.ended_reported c.a_stop_leads.ensures c.args.script.now.value c.args.self.now c.promote.new.self c.requires.limits c.requires.can
    c.in_ok-promoted.ensures.promoted c.in_ok-promoted.ensures.listed c.add_remembered.new.self c.add_remembered.ensures c.count-number.result
    (count_is (length c.args.self.now.rows.stops) c.count-number.result c.count-number.ensures (stop_fits c.args.script.now.value c.args.self.now c.requires.limits c.requires.can).number) c.try_close.new.self c.try_close.ensures c.try_end.new.self c.in_ok-try_end.ensures.ends)

-- the same for every script for which the stop could be done

module _ (g : Over) (c : goal.After-self-1 g) (s : Script) (limits : FitsRun s) (same : c.args.trigger ≡ s.config.trigger)
    (left : IsTrue c.args.left ↔ SomeIsLeft s.threads c.args.self.now.positions.items) (can : CanStop s c.args.self.now) where
  left_at_end_by : IsTrue c.args.left ↔ SomeIsLeft s.threads c.try_end.new.self.positions.items
  left_at_end_by = subst (λ (l : List ℕ). IsTrue c.args.left ↔ SomeIsLeft s.threads l)
      (sym (ap (λ (x : List RoundRows × List StopRow × List ℕ). x.2) (steps.ended_reported c.a_stop_leads.ensures s c.args.self.now c.promote.new.self limits can
      c.in_ok-promoted.ensures.promoted c.in_ok-promoted.ensures.listed c.add_remembered.new.self c.add_remembered.ensures c.count-number.result
      (count_is (length c.args.self.now.rows.stops) c.count-number.result c.count-number.ensures (stop_fits s c.args.self.now limits can).number) c.try_close.new.self c.try_close.ensures c.try_end.new.self c.in_ok-try_end.ensures.ends))) left

  proceeds_by_by : ProceedsThen s.config.trigger c.args.left c.count-number.result
      c.try_end.new.self c.do_due_cycle.new.self
  proceeds_by_by = subst (λ (n : ℕ). ProceedsThen n c.args.left c.count-number.result c.try_end.new.self c.do_due_cycle.new.self) same
      c.in_ok-do_due_cycle.ensures.proceeds

  stepped_by : IsStepped s c.args.self.now c.do_due_cycle.new.self
  stepped_by = record {
    number = c.count-number.result;
    number_is = count_is (length c.args.self.now.rows.stops) c.count-number.result c.count-number.ensures (stop_fits s c.args.self.now limits can).number;
    promoted = c.promote.new.self;
    promotes = c.in_ok-promoted.ensures.promoted;
    lists = c.in_ok-promoted.ensures.listed;
    added = c.add_remembered.new.self;
    adds = c.add_remembered.ensures;
    closed = c.try_close.new.self;
    closes = c.try_close.ensures;
    ended = c.try_end.new.self;
    ends = c.in_ok-try_end.ensures.ends;
    some = c.args.left;
    some_is = left_at_end_by;
    proceeds = proceeds_by_by;
  }

  read_by : IsRead s c.do_due_cycle.new.self
  read_by = record {
    left = c.args.left;
    left_is = some_left_then s c.try_end.new.self c.do_due_cycle.new.self s.config.trigger c.count-number.result
        c.args.left (proceeds_by_by) (left_at_end_by);
    phase = c.phase.result;
    phase_is = c.phase.ensures;
    free = c.free_count-free.result;
    free_is = c.free_count-free.ensures;
    filled = c.filled_count.result;
    filled_is = c.filled_count.ensures;
    sweep = c.sweep_count.result;
    sweep_is = c.sweep_count.ensures;
    reserve = c.reserve-reserve.result;
    reserve_is = c.reserve-reserve.ensures ∙ ap reserve_count c.layout.ensures.layout;
  }

  why_by : Why s c.do_due_cycle.new.self (read_by) c.if-left.end
  unfolding read_by
  why_by =
      let because : StopEnd → Type 0 = λ (e : StopEnd). Why s c.do_due_cycle.new.self (read_by) e in
      elim c.if-left.branch [
        | then-left+then-free-reserve w ↦ subst because (sym w.end-is) (refl, refl, w.if-left.true, w.if-free-reserve.true)
        | else-left+then-not-left+then-eq w ↦
            let quiet = same_true the_type tt w.phase-then-not-left.result Idle (sym w.eq.ensures ∙ w.if-eq.true) in
            subst because (sym w.end-is) (w.if-not-left.true, sym w.phase-then-not-left.ensures ∙ quiet)
        | else-left+else-not-left w ↦
            let goes_on : because answer.GoOn = elim w.else-left.branch [
              | else-left-via-then-left+else-free-reserve v ↦ inl (v.if-left.true, v.if-free-reserve.false)
              | else-left-via-else-left v ↦
                  let none : c.args.left ≡ false = v.if-left.false in
                  let busy : because answer.GoOn = elim w.else-not-left.branch [
                    | else-not-left-via-then-not-left+else-eq u ↦ inr (
                      none,
                      λ e. same_false the_type u.phase-then-not-left.result Idle (sym u.eq.ensures ∙ u.if-eq.false) (u.phase-then-not-left.ensures ∙ e),
                    )
                    | else-not-left-via-else-not-left u ↦
                        let some : c.args.left ≡ true = u.if-not-left.false in
                        absurd (true_isnt (sym some ∙ none))
                  ] in
                  busy
            ] in
            subst because (sym w.end-is) goes_on
      ]

pub returns-clause-each : goal.returns-clause-each
unfolding stepped_by read_by
returns-clause-each g c = λ other limits same left can.
    has_answered c.a_stop_leads.ensures other c.args.self.now c.do_due_cycle.new.self limits (stepped_by g c other limits same left can)
    (read_by g c other limits same left can) c.in_ok-promoted.promoted c.in_ok-promoted.ensures.many c.note.new.self c.end_of_answer-self.result
    c.note.ensures can c.if-left.end (why_by g c other limits same left can) c.end_of_answer-self.ensures
