-- As a round begins, the collector may do its part.
use Rattle.nmgc_cycle.proofs.Vocabulary.{◌≡◌, refl, sym, ap, subst, ◌∙◌, Round, RoundSeat, IsAt, seat_seen, collecting, Opening, View, whole, IsTied, marks_seen, Script, IsMarking, HasRoomToMark, Run, last_state, Cycle, Progress, idle, marking, sweeping, phase_of, plan_of, layout_of, opening_beside, RoundBeginsTied, Sweeper, AreLeft, Collector, CanHelp, IsAfterStop, Sweeps, seen, marker_in, sweeper_in, FitsRun, OpensIn}
use Rattle.nmgc_cycle.specs.declared.progress.Progress.TheVariants as doing
use Rattle.nmgc_cycle.proofs.{Vocabulary.HasOpeningLaws, rounds.Opened.in_cycle, lists.Phases.when_idle, lists.Phases.when_marking, lists.Phases.when_sweeping}

module _ (laws : HasOpeningLaws) (begins : RoundBeginsTied) (script : Script) (c : Collector) (run : Run) (limits : FitsRun script)
    (still : IsAfterStop script c run) (round : Round) (seat : RoundSeat) (at : IsAt round seat) where
  -- the marker is tied to the opening's marks
  tied : (k : Cycle) → (last_state run).progress ≡ marking k → (h : IsMarking k (last_state run) (seen c) still.at_stop.heap.places) →
      seat_seen seat ≡ collecting (whole (opening_beside c.heap.segments.layout h.core still.at_stop.heap.places c.mutators.items)) →
      IsTied (seat_seen seat).opening (marks_seen (seat_seen seat)) c.heap.segments (seen c).marker
  tied k e h knows =
      let o : Opening = opening_beside c.heap.segments.layout h.core still.at_stop.heap.places c.mutators.items in
      rw knows (begins (layout_of (plan_of script)) (last_state run) (seen c).words c.heap.segments _ _ k o (seen c).marker still.at_stop.heap
      still.kept.sound (in_cycle laws script c run limits still (marking k) e).0 h.machine still.kept.layout refl h.tied)

  helps : (p : Progress) (o : Opening) → (last_state run).progress ≡ p → OpensIn p (last_state run) c still.at_stop.heap.places o →
      seat_seen seat ≡ collecting (whole o) → CanHelp round seat c.heap.segments c.heap.names c.cycle.progress
  helps idle o e h knows =
      let is : c.cycle.progress ≡ doing.Idle = when_idle c.cycle.progress (still.at_stop.matches.phase ∙ ap phase_of e) in
      subst (CanHelp round seat c.heap.segments c.heap.names) (sym is) (at, ap (λ (v : View). v.collects) knows)
  helps (marking k) o e h knows =
      let m = when_marking c.cycle.progress (still.at_stop.matches.phase ∙ ap phase_of e) in
      let marker : (seen c).marker ≡ m.0.marker = ap marker_in m.1 in
      let room : HasRoomToMark c.heap.segments m.0.marker = subst (HasRoomToMark c.heap.segments) marker h.0.room in
      let is_tied : IsTied (seat_seen seat).opening (marks_seen (seat_seen seat)) c.heap.segments m.0.marker =
      subst (IsTied (seat_seen seat).opening (marks_seen (seat_seen seat)) c.heap.segments) marker (tied k e h.0 (cc (knows, h.1))) in
      subst (CanHelp round seat c.heap.segments c.heap.names) (sym m.1) ((at, ap (λ (v : View). v.collects) knows), room, is_tied)
  helps (sweeping k closed) o e h knows =
      let w = when_sweeping c.cycle.progress (still.at_stop.matches.phase ∙ ap phase_of e) in
      let sweeps : Sweeps (sweeping k closed) (last_state run) c = subst (λ (q : Progress). Sweeps q (last_state run) c) e still.sweeper in
      let left : AreLeft c.heap.segments w.0.sweeper = subst (λ (x : Sweeper). AreLeft c.heap.segments x) (ap sweeper_in w.1) sweeps.0 in
      subst (CanHelp round seat c.heap.segments c.heap.names) (sym w.1) ((at, ap (λ (v : View). v.collects) knows), left, still.kept.entries)

  pub can_help : (o : Opening) → OpensIn (last_state run).progress (last_state run) c still.at_stop.heap.places o →
      seat_seen seat ≡ collecting (whole o) → CanHelp round seat c.heap.segments c.heap.names c.cycle.progress
  can_help o h knows = helps (last_state run).progress o refl h knows
