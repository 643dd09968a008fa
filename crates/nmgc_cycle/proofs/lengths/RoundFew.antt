-- A round leaves fewer rounds to follow.
use Rattle.nmgc_cycle.proofs.Vocabulary.{ℕ, ◌≡◌, ◌+◌, ◌<◌, ◌≤◌, ◌⊎◌, List, [], ◌∷◌, ◌++◌, length, refl, sym, ap, subst, ◌∙◌, arith, Bool, true, false, None, inl, inr, ◌&&◌, not, nat_lt, if◌then◌else◌, cases_lt, Segments, Row, Reply, End, HeapFull, RoundRows, StopRow, Round, RoundSeat, Script, IsAfterRound, Run, last_state, has_left, program_of, Plan, State, Progress, idle, marking, sweeping, phase_of, is_idle, plan_of, free_count, reserve_of, answered_count, answer_of, left_is_determined, Name, Collector, Marking, Doing, Sweeping, commands_left, cycle_most, heap_of, most_stops, phase_left, MayFollow, AreFewBeforeStop, HasMore, NoneIsDue, commands, one_cycle, no_cycle, HasHelped, HasScanned, HasSweptSome, IsAfterStop, seen, phase_in, report_cycles, FitsRun, Some}
use Rattle.nmgc_journal.specs.declared.report.End.TheVariants.{Done}
use Rattle.nmgc_journal.specs.declared.report.Phase.TheVariants as phase
use Rattle.nmgc_cycle.specs.declared.progress.Progress.TheVariants as doing
use Rattle.nmgc_cycle.proofs.{lengths.Measures.AreLeft, lengths.Measures.nothing_left, lengths.Measures.round_falls, lengths.Measures.left_then, lengths.Measures.left_less, lengths.Measures.left_is, rounds.NoneLeft.DoesNothing, rounds.NoneLeft.nothing_done, rounds.NoneLeft.none_has}

-- The collector's part

module _ (segments quota : ℕ) (round : Round) (from seat : RoundSeat) (old new : Segments) (names : List Name) (some : 1 ≤ quota) where
  -- scanning leaves less of a cycle that marks
  scanned_falls : (m n : Marking) → m.last.empty ≡ false → HasScanned round quota from seat old new m n →
      phase_left segments (doing.Marking n) < phase_left segments (doing.Marking m)
  scanned_falls m n goes h =
      let was : phase_left segments (doing.Marking m) ≡ m.marker.spare + length m.marker.queue + segments + 2 =
      ap (λ (b : Bool). if b then segments + 1 else m.marker.spare + length m.marker.queue + segments + 2) goes in
      by n.last.empty refl was
    where
      by : (b : Bool) → n.last.empty ≡ b → phase_left segments (doing.Marking m) ≡ m.marker.spare + length m.marker.queue + segments + 2 →
          phase_left segments (doing.Marking n) < phase_left segments (doing.Marking m)
      by true is was =
          let now : phase_left segments (doing.Marking n) ≡ segments + 1 =
          ap (λ (b : Bool). if b then segments + 1 else n.marker.spare + length n.marker.queue + segments + 2) is in
          omega (arith, was, now)
      by false is was =
          let now : phase_left segments (doing.Marking n) ≡ n.marker.spare + length n.marker.queue + segments + 2 =
          ap (λ (b : Bool). if b then segments + 1 else n.marker.spare + length n.marker.queue + segments + 2) is in
          let pace = h.worked.marked.scanned.pace in
          let room = h.worked.marked.scanned.room in
          elim (cases_lt n.last.scanned quota) [
            | inl less ↦ absurd (let bad : true ≡ false = sym (h.empty.1 (h.least less)) ∙ is in cc)
            | inr all ↦ omega (arith, was, now, pace, room, all)
          ]

  -- and so does sweeping, of a cycle that sweeps
  swept_falls : (w v : Sweeping) → 1 ≤ length w.sweeper.left → HasSweptSome quota old new names w v →
      phase_left segments (doing.Sweeping v) < phase_left segments (doing.Sweeping w)
  swept_falls w v more h =
      let count = h.swept.fewer in
      elim (cases_lt h.count quota) [
        | inl less ↦ let none = ap (λ (l : List ℕ). length l) (h.least less) in omega (arith, none, more)
        | inr all ↦ omega (arith, count, all)
      ]

  -- the collector's part leaves less work, unless there was none
  helped : (p q : Doing) → HasMore p → HasHelped round quota from seat old new names p q → ((p ≡ doing.Idle) × (q ≡ doing.Idle)) ⊎
      (phase_left segments q < phase_left segments p)
  helped doing.Idle q more h = inl (refl, h.2)
  helped (doing.Marking m) q more h = inr (rw h.1 (scanned_falls m h.0 more h.2))
  helped (doing.Sweeping w) q more h = inr (rw h.1 (swept_falls w h.0 more h.3))

-- a run goes on if commands are left or a cycle is in progress
busy : (plan : Plan) (s : State) → has_left s.left ≡ false → answer_of plan s ≡ None → is_idle s.progress ≡ false
busy plan s none e = by (has_left s.left) (nat_lt (free_count s) (reserve_of plan)) (is_idle s.progress) (HeapFull (free_count s) (reserve_of plan)) none e
  where
    by : (left few quiet : Bool) (full : End) → left ≡ false →
        (if left && few then Some full else (if not left && quiet then Some Done else None)) ≡ None → quiet ≡ false
    by true few quiet full is e = absurd cc
    by false few false full is e = refl
    by false few true full is e = absurd cc

not_idle : (p : Doing) (q : Progress) → phase_in p ≡ phase_of q → is_idle q ≡ false → p ≡ doing.Idle → ⊥
not_idle p idle e not is = let bad : true ≡ false = not in cc
not_idle p (marking k) e not is = let bad : phase.Idle ≡ phase.Marking = ap phase_in (sym is) ∙ e in cc
not_idle p (sweeping k closed) e not is = let bad : phase.Idle ≡ phase.Sweeping = ap phase_in (sym is) ∙ e in cc

module _ (script : Script) (old new : Collector) (run : Run) (replies : List (List Reply)) (history : List Row) (worked : State)
    (limits : FitsRun script) (still : IsAfterStop script old run) (after : IsAfterRound (plan_of script) run replies history worked (seen new))
    (round : Round) (from seat : RoundSeat) (help : HasHelped round script.config.quota from seat old.heap.segments new.heap.segments old.heap.names
    old.cycle.progress new.cycle.progress) where
  abbrev s : State
  s = last_state run

  abbrev reported : RoundRows
  reported = record { replies = replies }

  same_stops : new.rows.stops ≡ old.rows.stops
  same_stops = after.agrees.stops_are ∙ sym still.at_stop.agrees.stops_are

  rounds_are : new.rows.rounds ≡ old.rows.rounds ++ reported ∷ []
  rounds_are = after.rounds ∙ ap (λ (r : List RoundRows). r ++ reported ∷ []) (after.agrees.rounds_are ∙ sym still.at_stop.agrees.rounds_are)

  left : AreLeft (plan_of script) s (answered_count old.rows.rounds)
  left = left_is_determined (plan_of script) run old.rows.rounds old.rows.stops (report_cycles old) still.at_stop.is_run still.at_stop.agrees

  part : ((old.cycle.progress ≡ doing.Idle) × (new.cycle.progress ≡ doing.Idle)) ⊎
      (phase_left script.config.segments new.cycle.progress < phase_left script.config.segments old.cycle.progress)
  part = helped script.config.segments script.config.quota round from seat old.heap.segments new.heap.segments old.heap.names limits.fits.config.some_quota
      old.cycle.progress new.cycle.progress still.few.more help

  no_longer : phase_left script.config.segments new.cycle.progress ≤ phase_left script.config.segments old.cycle.progress
  no_longer = elim part [
    | inl quiet ↦ (let a = ap (phase_left script.config.segments) quiet.0 in let b = ap (phase_left script.config.segments) quiet.1 in omega (arith, a, b))
    | inr falls ↦ omega (arith, falls)
  ]

  fewer_left : 1 ≤ commands_left script.threads old.rows.rounds → commands_left script.threads new.rows.rounds < commands_left script.threads old.rows.rounds
  fewer_left some =
      let is = left_is script.threads old.rows.rounds in
      let falls = round_falls script s worked replies history (answered_count old.rows.rounds) limits after.round left (omega (arith, some, is)) in
      let after_it = left_then script.threads old.rows.rounds reported in
      let now = ap (λ (r : List RoundRows). commands_left script.threads r) rounds_are in
      omega (arith, falls, after_it, now, is)

  -- no command is left
  module _ (none : commands_left script.threads old.rows.rounds ≡ 0) where
    nothing : (m : ℕ) → length (program_of s.left m) ≡ 0
    nothing = nothing_left (plan_of script) s (answered_count old.rows.rounds) left (sym (left_is script.threads old.rows.rounds) ∙ none)

    leaves : DoesNothing s worked
    leaves = nothing_done script.config s worked replies history after.round nothing

    none_now : commands_left script.threads new.rows.rounds ≡ 0
    none_now = let less = left_less script.threads old.rows.rounds reported in
        let now = ap (λ (r : List RoundRows). commands_left script.threads r) rounds_are in omega (arith, less, now, none)

    less : phase_left script.config.segments new.cycle.progress < phase_left script.config.segments old.cycle.progress
    less = elim part [
      | inl quiet ↦ absurd (not_idle old.cycle.progress s.progress still.at_stop.matches.phase
          (busy (plan_of script) s (none_has s.left nothing) after.goes_on) quiet.0)
      | inr falls ↦ falls
    ]

    not_due : NoneIsDue script.config.trigger old → NoneIsDue script.config.trigger new
    not_due undue = record {
      not_asked = after.matches.collect ∙ leaves.collect ∙ sym still.at_stop.matches.collect ∙ undue.not_asked;
      not_filled = λ some.
          let was = still.at_stop.heap.holds.stands.fresh in
          let now = after.heap.holds.stands.fresh in
          let same = leaves.fresh in
          let few = undue.not_filled some in
          omega (arith, was, now, same, few);
    }

    cycle_more : length old.rows.stops + phase_left script.config.segments old.cycle.progress + cycle_most (heap_of script) ≤ most_stops script →
        MayFollow (worked.world ≡ s.world) script new (length old.rows.stops + 1)
    cycle_more h = one_cycle none_now (omega (arith, h, less))

  follows : MayFollow (Unit {0}) script old (length old.rows.stops) → MayFollow (worked.world ≡ s.world) script new (length old.rows.stops + 1)
  follows (commands h) = elim (cases_lt 0 (commands_left script.threads old.rows.rounds)) [
    | inl some ↦ (let less = fewer_left (omega (arith, some)) in commands (omega (arith, h, less)))
    | inr zero_left ↦ (let short = still.few.few.phase in cycle_more (omega (arith, zero_left)) (omega (arith, h, short)))
  ]
  follows (one_cycle none h) = cycle_more none h
  follows (no_cycle none first undue h) = no_cycle (none_now none) (leaves none).world (not_due none undue) (let falls = less none in omega (arith, h, falls))

  -- the field of the invariant after a round
  pub round_few : AreFewBeforeStop script new s.world worked.world
  round_few =
      let many : length new.rows.stops ≡ length old.rows.stops = ap (λ (stops : List StopRow). length stops) same_stops in
      let count : length old.rows.stops + 1 ≡ length new.rows.stops + 1 = omega (arith, many) in
      let begun = still.few.begun in
      let was = still.at_stop.matches.begun in
      let now = after.matches.begun in
      let kept = ap (λ (x : State). x.begun) after.round.rest in
      record {
        few = record {
          follow = subst (λ (n : ℕ). MayFollow (worked.world ≡ s.world) script new n) count (follows still.few.few.follow);
          phase = (let most = still.few.few.phase in let shorter = no_longer in omega (arith, most, shorter));
        };
        begun = omega (arith, begun, was, now, kept, many);
      }
