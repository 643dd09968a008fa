use Rattle.nmgc_cycle.proofs.{Vocabulary.sym, Vocabulary.ap, Vocabulary.subst, Vocabulary.CanStop, Vocabulary.FitsRun, Vocabulary.FollowEach, Vocabulary.HasAnswered, Vocabulary.NothingReachableIsFreed, Vocabulary.Script, Vocabulary.StopsAfter, rounds.RunSoFar.so_far_stopped, rounds.SoFar.may_follow}
use Rattle.nmgc_cycle.proofs.program_run.ProgramRun.stop.Goals as goal

pub stop_programs-requires-clause-limits : goal.stop_programs-requires-clause-limits
stop_programs-requires-clause-limits g c κs within = subst FitsRun (sym c.script_so_far-script.ensures) c.requires.stands.0.limits

pub stop_programs-requires-clause-config : goal.stop_programs-requires-clause-config
stop_programs-requires-clause-config g c κs within = sym (ap (λ (s : Script). s.config) c.script_so_far-script.ensures)

pub stop_programs-requires-clause-valid : goal.stop_programs-requires-clause-valid
stop_programs-requires-clause-valid g c κs within = c.requires.stands.0.asked.valid_are

pub stop_programs-requires-clause-follow : goal.stop_programs-requires-clause-follow
stop_programs-requires-clause-follow g c κs within =
    let far = c.requires.stands.0 in
    let run = c.args.self.now in
    subst (λ (s : Script). FollowEach g.P.Program.next s run.collector.positions.items c.args.programs.now) (sym c.script_so_far-script.ensures)
    (may_follow g.P.Program.next g.P.Program.steps run.config run.given.value c.args.programs.now far.count run.collector.positions.items far.positions)

pub stop_programs-requires-clause-can : goal.stop_programs-requires-clause-can
stop_programs-requires-clause-can g c κs within = subst (λ (s : Script). CanStop s c.args.self.now.collector) (sym c.script_so_far-script.ensures) c.requires.stands.1

pub returns-clause-answered : goal.returns-clause-answered
returns-clause-answered g c =
    let run = c.args.self.now in (
      so_far_stopped g.P.Program.next g.P.Program.words g.P.Program.most g.P.Program.valid run.config run.collector c.stop_programs.new.self run.given.value c.args.programs.now c.requires.stands.0 c.in_ok-answer.ensures.positions
          c.in_ok-answer.ensures.rounds,
      subst (λ (s : Script). HasAnswered s c.stop_programs.new.self c.in_ok-answer.answer) c.script_so_far-script.ensures c.in_ok-answer.ensures.answered,
    )

pub returns-clause-after : goal.returns-clause-after
returns-clause-after g c =
    subst (λ (s : Script). StopsAfter s c.args.self.now.collector c.stop_programs.new.self) c.script_so_far-script.ensures c.in_ok-answer.ensures.after

pub returns-clause-freed : goal.returns-clause-freed
returns-clause-freed g c = subst (λ (s : Script). NothingReachableIsFreed s c.stop_programs.new.self) c.script_so_far-script.ensures c.in_ok-answer.ensures.freed
