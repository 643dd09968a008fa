use Rattle.nmgc_cycle.proofs.{Vocabulary.[], Vocabulary.false, Vocabulary.refl, Vocabulary.sym, Vocabulary.subst, Vocabulary.Collector, Vocabulary.HasRunPrograms, Vocabulary.ObservedRun, rounds.Continuing.gave_none, rounds.ObservedSoFar.no_part, rounds.ObservedSoFar.part_of_run, rounds.ObservedSoFar.whole_run, stops.Observing.any_err}
use Rattle.nmgc_cycle.specs.laws.Events.{the_rest_completes_a_run}
use Rattle.nmgc_cycle.proofs.collector.Collector.run_programs_observed.Goals as goal

pub returns-clause-ok : goal.returns-clause-ok
returns-clause-ok g c =
    let last = c.run_to_end.new.self in
    subst (λ (x : Collector). HasRunPrograms g.P.Program.next g.P.Program.steps g.P.Program.words g.P.Program.most g.P.Program.valid c.args.config.now c.args.programs.now c.run_to_end.new.programs x c.in_ok-end.end ×
    ObservedRun g.J.Observer.steps c.args.observer.now x false c.run_to_end.new.observer) (sym c.into_collector.ensures) (
      whole_run g.P.Program.next g.P.Program.steps g.P.Program.words g.P.Program.most g.P.Program.valid c.args.config.now c.in_ok-run.run' last c.args.programs.now c.run_to_end.new.programs c.in_ok-end.end c.in_ok-run.ensures.config
          c.in_ok-run.ensures.given c.run_to_end.ensures.config c.in_ok-end.ensures.more c.in_ok-end.ensures.ended.0,
      the_rest_completes_a_run g.J.Observer.steps c.args.observer.now c.args.observer.now c.run_to_end.new.observer c.in_ok-run.run'.collector last.collector false
          ([], refl, c.in_ok-run.ensures.events) c.in_ok-end.ensures.ended.1,
    )

-- the run was given up: the events so far, of the script so far

pub returns-in_err-run-clause-err : goal.returns-in_err-run-clause-err
returns-in_err-run-clause-err g c = any_err _ (no_part g.J.Observer.steps g.J.Observer.fails g.P.Program.next g.P.Program.steps g.P.Program.words g.P.Program.most g.P.Program.valid (g.met.P.Program g.world.𝓛 g.world.𝓜 g.world.𝓡 ((λ s x. x), (λ x. x), (λ x. x), λ x. x)).waits c.args.config.now c.args.programs.now c.requires c.args.observer.now)

pub returns-in_err-run-clause-gave : goal.returns-in_err-run-clause-gave
returns-in_err-run-clause-gave g c = gave_none g.P.Program.next g.P.Program.steps g.P.Program.words g.P.Program.most g.P.Program.valid c.args.programs.now c.requires.valid_are

pub returns-in_err-end-clause-err : goal.returns-in_err-end-clause-err
returns-in_err-end-clause-err g c = any_err _ (part_of_run g.J.Observer.steps g.J.Observer.fails g.P.Program.next g.P.Program.steps g.P.Program.words g.P.Program.most g.P.Program.valid c.args.config.now c.in_ok-run.run' c.args.programs.now c.run_to_end.new.programs
    c.args.observer.now c.run_to_end.new.observer c.in_ok-run.ensures.config c.in_ok-run.ensures.given ([], refl, c.in_ok-run.ensures.events)
    c.in_err-end.ensures.err)
