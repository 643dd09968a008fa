use Rattle.nmgc_cycle.proofs.{Vocabulary.ℕ, Vocabulary.◌∙◌, Vocabulary.List, Vocabulary.[], Vocabulary.inl, Vocabulary.refl, Vocabulary.sym, Vocabulary.ap, Vocabulary.subst, Vocabulary.length, Vocabulary.Script, Vocabulary.HasStopped, Vocabulary.DidRound, Vocabulary.HaveTried, Vocabulary.CanContinue, Vocabulary.Continues, Vocabulary.FitsRun, Vocabulary.MayBeAsked, Vocabulary.AreListed, rounds.ListedRounds.same_script, rounds.ListedRounds.listed_next, rounds.ListedRounds.listed_steps, rounds.ListedRounds.listed_words, rounds.ListedRounds.listed_most, rounds.ListedRounds.listed_valid, rounds.ListedRounds.lists_may, rounds.ListedRounds.lists_can, rounds.ListedRounds.lists_continue, rounds.RoundWorked.on_ok, rounds.Positions.position_within}
use Rattle.nmgc_cycle.proofs.collector.Collector.round.Goals as goal

pub listed-requires : goal.listed-requires
listed-requires g c = ap (λ (l : List ℕ). length l) c.as_slice.ensures.value ∙ c.requires.stopped.0.1.kept.positions_are

pub round_programs-requires-clause-limits : goal.round_programs-requires-clause-limits
round_programs-requires-clause-limits g c κs out = subst FitsRun (sym c.known_before.ensures) c.requires.limits

pub round_programs-requires-clause-config : goal.round_programs-requires-clause-config
round_programs-requires-clause-config g c κs out = ap (λ (s : Script). s.config) (sym c.known_before.ensures)

pub round_programs-requires-clause-stopped : goal.round_programs-requires-clause-stopped
round_programs-requires-clause-stopped g c κs out = (
  subst (λ (s : Script). HasStopped s c.args.self.now) (sym c.known_before.ensures) c.requires.stopped.0,
  c.requires.stopped.1,
)

pub round_programs-requires-clause-programs : goal.round_programs-requires-clause-programs
round_programs-requires-clause-programs g c κs out =
    let script = c.args.script.now in
    let are : AreListed script c.args.self.now.positions.items c.as_mut_slice.result.now =
    subst (AreListed script c.args.self.now.positions.items) (sym c.as_mut_slice.ensures.value)
    (subst (λ (l : List ℕ). AreListed script l c.in_ok-programs.programs.items) c.as_slice.ensures.value c.in_ok-programs.ensures) in
    subst (λ (s : Script). MayBeAsked listed_words listed_most listed_valid s c.args.self.now.positions.items c.as_mut_slice.result.now)
    (sym c.known_before.ensures) (lists_may script c.args.self.now.positions.items c.as_mut_slice.result.now c.requires.limits are
    (λ k lt. position_within script c.args.self.now c.requires.stopped.0.0 c.requires.stopped.0.1 k lt))

pub round_programs-requires-clause-continues : goal.round_programs-requires-clause-continues
round_programs-requires-clause-continues g c κs out =
    let script = c.args.script.now in
    let are : AreListed script c.args.self.now.positions.items c.as_mut_slice.result.now =
    subst (AreListed script c.args.self.now.positions.items) (sym c.as_mut_slice.ensures.value)
    (subst (λ (l : List ℕ). AreListed script l c.in_ok-programs.programs.items) c.as_slice.ensures.value c.in_ok-programs.ensures) in
    subst (λ (s : Script). CanContinue listed_next listed_steps listed_words listed_most listed_valid s c.args.self.now.positions.items
    c.as_mut_slice.result.now) (sym c.known_before.ensures)
    (lists_can script c.args.self.now.positions.items c.as_mut_slice.result.now c.requires.limits are)

pub returns-clause-worked : goal.returns-clause-worked
returns-clause-worked g c =
    let script = c.args.script.now in
    let are : AreListed script c.args.self.now.positions.items c.as_mut_slice.result.now =
    subst (AreListed script c.args.self.now.positions.items) (sym c.as_mut_slice.ensures.value)
    (subst (λ (l : List ℕ). AreListed script l c.in_ok-programs.programs.items) c.as_slice.ensures.value c.in_ok-programs.ensures) in
    on_ok c.round_programs.result c.round_programs.ensures.worked (λ asked.
    let same = same_script c.known_before.result.value ∙ c.known_before.ensures in
    let on = lists_continue script c.args.self.now.positions.items c.as_mut_slice.result.now c.requires.limits are c.round_programs.new.programs asked.done
    asked.gave in
    subst (λ (s : Script). DidRound s c.args.self.now c.round_programs.new.self) same (asked.did [] (λ k lt. inl refl)
    (subst (λ (s : Script). Continues listed_next s c.args.self.now.positions.items c.round_programs.new.programs asked.done) (sym same) on)
    (subst FitsRun (sym same) c.requires.limits)).0)

pub returns-clause-mutator_turns : goal.returns-clause-mutator_turns
returns-clause-mutator_turns g c =
    let script = c.args.script.now in
    let are : AreListed script c.args.self.now.positions.items c.as_mut_slice.result.now =
    subst (AreListed script c.args.self.now.positions.items) (sym c.as_mut_slice.ensures.value)
    (subst (λ (l : List ℕ). AreListed script l c.in_ok-programs.programs.items) c.as_slice.ensures.value c.in_ok-programs.ensures) in
    on_ok c.round_programs.result c.round_programs.ensures.worked (λ asked.
    let same = same_script c.known_before.result.value ∙ c.known_before.ensures in
    let on = lists_continue script c.args.self.now.positions.items c.as_mut_slice.result.now c.requires.limits are c.round_programs.new.programs asked.done
    asked.gave in
    subst (λ (s : Script). HaveTried s c.args.self.now c.round_programs.new.self) same (asked.did [] (λ k lt. inl refl)
    (subst (λ (s : Script). Continues listed_next s c.args.self.now.positions.items c.round_programs.new.programs asked.done) (sym same) on)
    (subst FitsRun (sym same) c.requires.limits)).1)
