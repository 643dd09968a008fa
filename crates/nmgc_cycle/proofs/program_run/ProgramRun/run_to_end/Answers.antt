use Rattle.nmgc_cycle.proofs.{Vocabulary.◌∙◌, Vocabulary.Option, Vocabulary.arith, Vocabulary.false, Vocabulary.subst, Vocabulary.true, Vocabulary.Some, Vocabulary.IfNone, Vocabulary.IfSome, Vocabulary.End, Vocabulary.RunHasEnded, Vocabulary.ObservedFrom, Vocabulary.StandsBeforeStop, rounds.StopByStop.advanced_further, rounds.StopByStop.all_more_given, rounds.StopByStop.gave_some_further, rounds.StopByStop.gave_up_further, rounds.StopByStop.goes_further, rounds.StopByStop.more_stops, rounds.StopByStop.not_advanced, rounds.StopByStop.observed_further, rounds.StopByStop.stops_left, stops.Observing.any_err, Vocabulary.IsContinuedTo}
use Rattle.nmgc_cycle.proofs.program_run.ProgramRun.run_to_end.Goals as goal

pub stops-init : goal.stops-init
stops-init g c = not_advanced g.J.Observer.steps g.J.Observer.fails g.P.Program.next g.P.Program.steps g.P.Program.words g.P.Program.most g.P.Program.valid c.args.self.now c.args.programs.now c.args.observer.now c.requires.stands

pub advance-requires-clause-stands : goal.advance-requires-clause-stands
advance-requires-clause-stands g c κs within = c.stops.invariant.stands

pub stops-preserved : goal.stops-preserved
stops-preserved g c =
    let on = subst (λ (o : Option End). IfNone o (StandsBeforeStop g.P.Program.next g.P.Program.words g.P.Program.most g.P.Program.valid c.advance.new.self c.advance.new.programs ×
    ObservedFrom g.J.Observer.steps c.stops.self.collector c.stops.observer c.advance.new.self.collector true c.advance.new.observer)) c.in_default.is c.in_ok-ended.ensures.stands in
    advanced_further g.J.Observer.steps g.J.Observer.fails g.P.Program.next g.P.Program.steps g.P.Program.words g.P.Program.most g.P.Program.valid c.args.self.now c.stops.self c.args.programs.now c.stops.programs c.args.observer.now c.stops.observer c.stops.invariant c.advance.new.self
    c.advance.new.programs c.advance.new.observer c.advance.ensures.config c.in_ok-ended.ensures.more (subst (λ (o : Option End). IsContinuedTo g.P.Program.next g.P.Program.steps g.P.Program.words g.P.Program.most g.P.Program.valid c.stops.self c.stops.programs c.advance.new.self c.advance.new.programs o) c.in_default.is c.in_ok-ended.ensures.goes_on) on.0 on.1

pub stops-smaller : goal.stops-smaller
stops-smaller g c =
    let left = stops_left g.J.Observer.steps g.J.Observer.fails g.P.Program.next g.P.Program.steps g.P.Program.words g.P.Program.most g.P.Program.valid c.args.self.now c.stops.self c.args.programs.now c.stops.programs c.args.observer.now c.stops.observer c.stops.invariant in
    let more = c.in_ok-ended.ensures.stops in
    omega (arith, left, more)

-- the run ended

pub returns-in-Some-clause-config : goal.returns-in-Some-clause-config
returns-in-Some-clause-config g c = c.advance.ensures.config ∙ c.stops.invariant.config

pub returns-in-Some-clause-more : goal.returns-in-Some-clause-more
returns-in-Some-clause-more g c = all_more_given g.J.Observer.steps g.J.Observer.fails g.P.Program.next g.P.Program.steps g.P.Program.words g.P.Program.most g.P.Program.valid c.args.self.now c.stops.self c.args.programs.now c.stops.programs c.args.observer.now c.stops.observer c.stops.invariant c.advance.new.self
    c.advance.new.programs c.advance.new.observer c.advance.ensures.config c.in_ok-ended.ensures.more

pub returns-in-Some-clause-goes_on : goal.returns-in-Some-clause-goes_on
returns-in-Some-clause-goes_on g c = goes_further g.J.Observer.steps g.J.Observer.fails g.P.Program.next g.P.Program.steps g.P.Program.words g.P.Program.most g.P.Program.valid c.args.self.now c.stops.self c.args.programs.now c.stops.programs c.args.observer.now c.stops.observer c.stops.invariant c.advance.new.self
    c.advance.new.programs c.advance.new.observer c.advance.ensures.config c.in_ok-ended.ensures.more (Some c.in-Some.end) (subst (λ (o : Option End). IsContinuedTo g.P.Program.next g.P.Program.steps g.P.Program.words g.P.Program.most g.P.Program.valid c.stops.self c.stops.programs c.advance.new.self c.advance.new.programs o) c.in-Some.is c.in_ok-ended.ensures.goes_on)

pub returns-in-Some-clause-stops : goal.returns-in-Some-clause-stops
returns-in-Some-clause-stops g c = more_stops g.J.Observer.steps g.J.Observer.fails g.P.Program.next g.P.Program.steps g.P.Program.words g.P.Program.most g.P.Program.valid c.args.self.now c.stops.self c.args.programs.now c.stops.programs c.args.observer.now c.stops.observer c.stops.invariant c.advance.new.self
    c.advance.new.programs c.advance.new.observer c.advance.ensures.config c.in_ok-ended.ensures.more c.in_ok-ended.ensures.stops

pub returns-in-Some-clause-ended : goal.returns-in-Some-clause-ended
returns-in-Some-clause-ended g c =
    let h = subst (λ (o : Option End). IfSome o (λ end. RunHasEnded g.P.Program.next g.P.Program.words g.P.Program.most g.P.Program.valid c.advance.new.self c.advance.new.programs end ×
    ObservedFrom g.J.Observer.steps c.stops.self.collector c.stops.observer c.advance.new.self.collector false c.advance.new.observer)) c.in-Some.is c.in_ok-ended.ensures.ended in (
      h.0,
      observed_further g.J.Observer.steps g.J.Observer.fails g.P.Program.next g.P.Program.steps g.P.Program.words g.P.Program.most g.P.Program.valid c.args.self.now c.stops.self c.args.programs.now c.stops.programs c.args.observer.now c.stops.observer c.stops.invariant c.advance.new.self
          c.advance.new.programs c.advance.new.observer c.advance.ensures.config c.in_ok-ended.ensures.more false h.1,
    )

pub returns-in-Some-clause-gave : goal.returns-in-Some-clause-gave
returns-in-Some-clause-gave g c = gave_some_further g.J.Observer.steps g.J.Observer.fails g.P.Program.next g.P.Program.steps g.P.Program.words g.P.Program.most g.P.Program.valid c.args.self.now c.stops.self c.args.programs.now c.stops.programs c.args.observer.now c.stops.observer c.stops.invariant c.advance.new.programs c.advance.ensures.gave

-- the run was given up

pub returns-in_err-ended-clause-config : goal.returns-in_err-ended-clause-config
returns-in_err-ended-clause-config g c = c.advance.ensures.config ∙ c.stops.invariant.config

pub returns-in_err-ended-clause-err : goal.returns-in_err-ended-clause-err
returns-in_err-ended-clause-err g c = any_err _ (gave_up_further g.J.Observer.steps g.J.Observer.fails g.P.Program.next g.P.Program.steps g.P.Program.words g.P.Program.most g.P.Program.valid c.args.self.now c.stops.self c.args.programs.now c.stops.programs c.args.observer.now c.stops.observer c.stops.invariant c.advance.new.programs c.advance.new.observer c.in_err-ended.ensures.err)

pub returns-in_err-ended-clause-gave : goal.returns-in_err-ended-clause-gave
returns-in_err-ended-clause-gave g c = gave_some_further g.J.Observer.steps g.J.Observer.fails g.P.Program.next g.P.Program.steps g.P.Program.words g.P.Program.most g.P.Program.valid c.args.self.now c.stops.self c.args.programs.now c.stops.programs c.args.observer.now c.stops.observer c.stops.invariant c.advance.new.programs c.advance.ensures.gave
