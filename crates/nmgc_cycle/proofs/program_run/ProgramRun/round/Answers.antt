use Rattle.nmgc_cycle.proofs.{Vocabulary.◌≡◌, Vocabulary.None, Vocabulary.refl, Vocabulary.sym, Vocabulary.ap, Vocabulary.subst, Vocabulary.CanContinue, Vocabulary.Collector, Vocabulary.DidAsk, Vocabulary.DidRound, Vocabulary.HaveTried, Vocabulary.inl, Vocabulary.inr, Vocabulary.script_of, Vocabulary.FitsRun, Vocabulary.GaveEach, Vocabulary.GaveMore, Vocabulary.HasStopped, Vocabulary.MayBeAsked, Vocabulary.Script, Vocabulary.joined, Vocabulary.script_so_far, rounds.RunSoFar.done_round, rounds.RunSoFar.so_far_next, rounds.SoFar.may_continue, stops.Observing.any_err}
use Rattle.nmgc_cycle.proofs.program_run.ProgramRun.round.Goals as goal

pub of-before-requires : goal.of-before-requires
of-before-requires g c = (record { ref_ptr = c.args.programs.ref_ptr; now = c.args.programs.now }, refl)

pub round_programs-requires-clause-limits : goal.round_programs-requires-clause-limits
round_programs-requires-clause-limits g c κs within = subst FitsRun (sym c.script_so_far-script.ensures) c.requires.stands.0.limits

pub round_programs-requires-clause-config : goal.round_programs-requires-clause-config
round_programs-requires-clause-config g c κs within = sym (ap (λ (s : Script). s.config) c.script_so_far-script.ensures)

pub round_programs-requires-clause-stopped : goal.round_programs-requires-clause-stopped
round_programs-requires-clause-stopped g c κs within =
    let collector = c.args.self.now.collector in
    subst (λ (s : Script). HasStopped s collector × (collector.answered ≡ None)) (sym c.script_so_far-script.ensures) c.requires.stands.1

pub round_programs-requires-clause-programs : goal.round_programs-requires-clause-programs
round_programs-requires-clause-programs g c κs within = subst (λ (s : Script).
    MayBeAsked g.P.Program.words g.P.Program.most g.P.Program.valid s c.args.self.now.collector.positions.items c.args.programs.now) (sym c.script_so_far-script.ensures)
    c.requires.stands.0.asked

pub round_programs-requires-clause-continues : goal.round_programs-requires-clause-continues
round_programs-requires-clause-continues g c κs within =
    let run = c.args.self.now in
    subst (λ (s : Script). CanContinue g.P.Program.next g.P.Program.steps g.P.Program.words g.P.Program.most g.P.Program.valid s run.collector.positions.items c.args.programs.now) (sym c.script_so_far-script.ensures)
    (may_continue g.P.Program.next g.P.Program.steps g.P.Program.words g.P.Program.most g.P.Program.valid (g.met.P.Program g.world.𝓛 g.world.𝓜 g.world.𝓡 ((λ s x. x), (λ x. x), (λ x. x), λ x. x)).waits run.config run.collector run.given.value c.args.programs.now c.requires.stands.0 run.collector.positions.items refl)

pub of-stopped-requires : goal.of-stopped-requires
of-stopped-requires g c = (c.args.self.now.collector, refl)

pub of-requires : goal.of-requires
of-requires g c =
    let run = c.args.self.now in
    let after = c.round_programs.new.programs in
    let asked : DidAsk g.P.Program.next g.P.Program.steps g.P.Program.words g.P.Program.most g.P.Program.valid (script_so_far g.P.Program.next run c.args.programs.now) run.collector c.round_programs.new.self c.args.programs.now after =
    subst (λ (s : Script). DidAsk g.P.Program.next g.P.Program.steps g.P.Program.words g.P.Program.most g.P.Program.valid s run.collector c.round_programs.new.self c.args.programs.now after) c.script_so_far-script.ensures
    c.in_ok-rows.ensures.worked in
    let far = so_far_next g.P.Program.next g.P.Program.steps g.P.Program.words g.P.Program.most g.P.Program.valid (g.met.P.Program g.world.𝓛 g.world.𝓜 g.world.𝓡 ((λ s x. x), (λ x. x), (λ x. x), λ x. x)).waits run.config run.collector run.collector c.round_programs.new.self c.args.programs.now after run.given.value c.requires.stands.0 refl refl
    asked in
    let script : Script = script_of g.P.Program.next run.config (joined run.given.value asked.done) after in (
      joined run.given.value asked.done,
      (
        record {
          done = asked.done;
          gave = subst (λ l. GaveEach g.P.Program.next g.P.Program.steps g.P.Program.words g.P.Program.most g.P.Program.valid l after asked.done) (sym c.of-before.ensures) asked.gave;
          joined_is = refl;
        },
        far.0,
        subst (λ (x : Collector). DidRound script x c.round_programs.new.self) (sym c.of-stopped.ensures) far.1,
        subst (λ (x : Collector). HaveTried script x c.round_programs.new.self) (sym c.of-stopped.ensures) far.2,
      ),
    )

pub returns-clause-more : goal.returns-clause-more
returns-clause-more g c =
    subst (λ l. GaveMore g.P.Program.next g.P.Program.steps g.P.Program.words g.P.Program.most g.P.Program.valid l c.round_programs.new.programs c.args.self.now.given.value c.of.result.value) c.of-before.ensures c.of.ensures.0

pub returns-clause-stands : goal.returns-clause-stands
returns-clause-stands g c = (c.of.ensures.1, inr c.of.ensures.2.0)

pub returns-clause-did : goal.returns-clause-did
returns-clause-did g c = subst (λ (x : Collector). DidRound (script_of g.P.Program.next c.args.self.now.config c.of.result.value c.round_programs.new.programs) x c.round_programs.new.self) c.of-stopped.ensures c.of.ensures.2

pub returns-clause-mutator_turns : goal.returns-clause-mutator_turns
returns-clause-mutator_turns g c = subst (λ (x : Collector). HaveTried (script_of g.P.Program.next c.args.self.now.config c.of.result.value c.round_programs.new.programs) x c.round_programs.new.self) c.of-stopped.ensures c.of.ensures.3

-- the round was given up

pub returns-in_err-rows-clause-replied : goal.returns-in_err-rows-clause-replied
returns-in_err-rows-clause-replied g c =
    let run = c.args.self.now in
    let before = c.args.programs.now in
    let after = c.round_programs.new.programs in
    any_err _ (elim c.in_err-rows.ensures.replied [
      | inl none ↦ inl none
      | inr did ↦ inr (done_round g.P.Program.next g.P.Program.steps g.P.Program.words g.P.Program.most g.P.Program.valid (g.met.P.Program g.world.𝓛 g.world.𝓜 g.world.𝓡 ((λ s x. x), (λ x. x), (λ x. x), λ x. x)).waits run did.0 before after c.requires.stands.0
          (subst (λ (s : Script). DidAsk g.P.Program.next g.P.Program.steps g.P.Program.words g.P.Program.most g.P.Program.valid s run.collector did.0 before after) c.script_so_far-script.ensures did.1))
    ])
