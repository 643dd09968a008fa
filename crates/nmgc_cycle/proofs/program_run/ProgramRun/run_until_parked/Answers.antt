use Rattle.nmgc_cycle.proofs.{Vocabulary.◌∙◌, Vocabulary.◌<◌, Vocabulary.length, Vocabulary.Option, Vocabulary.arith, Vocabulary.false, Vocabulary.refl, Vocabulary.subst, Vocabulary.true, Vocabulary.Some, Vocabulary.None, Vocabulary.IfNone, Vocabulary.IfSome, Vocabulary.End, Vocabulary.RunHasEnded, Vocabulary.IsContinuedTo, Vocabulary.ObservedFrom, Vocabulary.StandsBeforeStop, rounds.StopByStop.advanced_further, rounds.StopByStop.all_more_given, rounds.StopByStop.gave_some_further, rounds.StopByStop.gave_up_further, rounds.StopByStop.goes_further, rounds.StopByStop.more_stops, rounds.StopByStop.more_rounds, rounds.StopByStop.not_advanced, rounds.StopByStop.observed_further, rounds.StopByStop.stops_left, stops.Observing.any_err}
use Rattle.nmgc_cycle.proofs.program_run.ProgramRun.run_until_parked.Goals as goal

pub turns-init : goal.turns-init
turns-init g c = not_advanced g.J.Observer.steps g.J.Observer.fails g.P.Program.next g.P.Program.steps g.P.Program.words g.P.Program.most g.P.Program.valid c.args.self.now c.args.programs.now c.args.observer.now c.requires.stands

pub advance-requires-clause-stands : goal.advance-requires-clause-stands
advance-requires-clause-stands g c κs within = c.turns.invariant.stands

pub turns-preserved : goal.turns-preserved
turns-preserved g c =
    let on = subst (λ (o : Option End). IfNone o (StandsBeforeStop g.P.Program.next g.P.Program.words g.P.Program.most g.P.Program.valid c.advance.new.self c.advance.new.programs ×
    ObservedFrom g.J.Observer.steps c.turns.self.collector c.turns.observer c.advance.new.self.collector true c.advance.new.observer)) c.in_default.is c.in_ok-ended.ensures.stands in
    advanced_further g.J.Observer.steps g.J.Observer.fails g.P.Program.next g.P.Program.steps g.P.Program.words g.P.Program.most g.P.Program.valid c.args.self.now c.turns.self c.args.programs.now c.turns.programs c.args.observer.now c.turns.observer c.turns.invariant c.advance.new.self
    c.advance.new.programs c.advance.new.observer c.advance.ensures.config c.in_ok-ended.ensures.more (subst (λ (o : Option End). IsContinuedTo g.P.Program.next g.P.Program.steps g.P.Program.words g.P.Program.most g.P.Program.valid c.turns.self c.turns.programs c.advance.new.self c.advance.new.programs o) c.in_default.is c.in_ok-ended.ensures.goes_on) on.0 on.1

pub turns-smaller : goal.turns-smaller
turns-smaller g c =
    let left = stops_left g.J.Observer.steps g.J.Observer.fails g.P.Program.next g.P.Program.steps g.P.Program.words g.P.Program.most g.P.Program.valid c.args.self.now c.turns.self c.args.programs.now c.turns.programs c.args.observer.now c.turns.observer c.turns.invariant in
    let more = c.in_ok-ended.ensures.stops in
    omega (arith, left, more)

-- the run ended

pub returns-in-Some-clause-config : goal.returns-in-Some-clause-config
returns-in-Some-clause-config g c = c.advance.ensures.config ∙ c.turns.invariant.config

pub returns-in-Some-clause-more : goal.returns-in-Some-clause-more
returns-in-Some-clause-more g c = all_more_given g.J.Observer.steps g.J.Observer.fails g.P.Program.next g.P.Program.steps g.P.Program.words g.P.Program.most g.P.Program.valid c.args.self.now c.turns.self c.args.programs.now c.turns.programs c.args.observer.now c.turns.observer c.turns.invariant c.advance.new.self
    c.advance.new.programs c.advance.new.observer c.advance.ensures.config c.in_ok-ended.ensures.more

pub returns-in-Some-clause-goes_on : goal.returns-in-Some-clause-goes_on
returns-in-Some-clause-goes_on g c = goes_further g.J.Observer.steps g.J.Observer.fails g.P.Program.next g.P.Program.steps g.P.Program.words g.P.Program.most g.P.Program.valid c.args.self.now c.turns.self c.args.programs.now c.turns.programs c.args.observer.now c.turns.observer c.turns.invariant c.advance.new.self
    c.advance.new.programs c.advance.new.observer c.advance.ensures.config c.in_ok-ended.ensures.more (Some c.in-Some.end) (subst (λ (o : Option End). IsContinuedTo g.P.Program.next g.P.Program.steps g.P.Program.words g.P.Program.most g.P.Program.valid c.turns.self c.turns.programs c.advance.new.self c.advance.new.programs o) c.in-Some.is c.in_ok-ended.ensures.goes_on)

pub returns-in-Some-clause-stops : goal.returns-in-Some-clause-stops
returns-in-Some-clause-stops g c = more_stops g.J.Observer.steps g.J.Observer.fails g.P.Program.next g.P.Program.steps g.P.Program.words g.P.Program.most g.P.Program.valid c.args.self.now c.turns.self c.args.programs.now c.turns.programs c.args.observer.now c.turns.observer c.turns.invariant c.advance.new.self
    c.advance.new.programs c.advance.new.observer c.advance.ensures.config c.in_ok-ended.ensures.more c.in_ok-ended.ensures.stops

pub returns-in-Some-clause-ended : goal.returns-in-Some-clause-ended
returns-in-Some-clause-ended g c =
    let h = subst (λ (o : Option End). IfSome o (λ end. RunHasEnded g.P.Program.next g.P.Program.words g.P.Program.most g.P.Program.valid c.advance.new.self c.advance.new.programs end ×
    ObservedFrom g.J.Observer.steps c.turns.self.collector c.turns.observer c.advance.new.self.collector false c.advance.new.observer)) c.in-Some.is c.in_ok-ended.ensures.ended in (
      h.0,
      observed_further g.J.Observer.steps g.J.Observer.fails g.P.Program.next g.P.Program.steps g.P.Program.words g.P.Program.most g.P.Program.valid c.args.self.now c.turns.self c.args.programs.now c.turns.programs c.args.observer.now c.turns.observer c.turns.invariant c.advance.new.self
          c.advance.new.programs c.advance.new.observer c.advance.ensures.config c.in_ok-ended.ensures.more false h.1,
    )

pub returns-in-Some-clause-gave : goal.returns-in-Some-clause-gave
returns-in-Some-clause-gave g c = gave_some_further g.J.Observer.steps g.J.Observer.fails g.P.Program.next g.P.Program.steps g.P.Program.words g.P.Program.most g.P.Program.valid c.args.self.now c.turns.self c.args.programs.now c.turns.programs c.args.observer.now c.turns.observer c.turns.invariant c.advance.new.programs c.advance.ensures.gave

-- every program is parked

pub are_parked-requires-clause-valid : goal.are_parked-requires-clause-valid
are_parked-requires-clause-valid g c κs within =
    let on = subst (λ (o : Option End). IfNone o (StandsBeforeStop g.P.Program.next g.P.Program.words g.P.Program.most g.P.Program.valid c.advance.new.self c.advance.new.programs ×
    ObservedFrom g.J.Observer.steps c.turns.self.collector c.turns.observer c.advance.new.self.collector true c.advance.new.observer)) c.in_default.is c.in_ok-ended.ensures.stands in
    on.0.0.asked.valid_are

pub returns-then-are_parked-clause-config : goal.returns-then-are_parked-clause-config
returns-then-are_parked-clause-config g c = c.advance.ensures.config ∙ c.turns.invariant.config

pub returns-then-are_parked-clause-more : goal.returns-then-are_parked-clause-more
returns-then-are_parked-clause-more g c = all_more_given g.J.Observer.steps g.J.Observer.fails g.P.Program.next g.P.Program.steps g.P.Program.words g.P.Program.most g.P.Program.valid c.args.self.now c.turns.self c.args.programs.now c.turns.programs c.args.observer.now c.turns.observer c.turns.invariant c.advance.new.self
    c.advance.new.programs c.advance.new.observer c.advance.ensures.config c.in_ok-ended.ensures.more

pub returns-then-are_parked-clause-goes_on : goal.returns-then-are_parked-clause-goes_on
returns-then-are_parked-clause-goes_on g c = goes_further g.J.Observer.steps g.J.Observer.fails g.P.Program.next g.P.Program.steps g.P.Program.words g.P.Program.most g.P.Program.valid c.args.self.now c.turns.self c.args.programs.now c.turns.programs c.args.observer.now c.turns.observer c.turns.invariant c.advance.new.self
    c.advance.new.programs c.advance.new.observer c.advance.ensures.config c.in_ok-ended.ensures.more None (subst (λ (o : Option End). IsContinuedTo g.P.Program.next g.P.Program.steps g.P.Program.words g.P.Program.most g.P.Program.valid c.turns.self c.turns.programs c.advance.new.self c.advance.new.programs o) c.in_default.is c.in_ok-ended.ensures.goes_on)

pub returns-then-are_parked-clause-stops : goal.returns-then-are_parked-clause-stops
returns-then-are_parked-clause-stops g c = more_stops g.J.Observer.steps g.J.Observer.fails g.P.Program.next g.P.Program.steps g.P.Program.words g.P.Program.most g.P.Program.valid c.args.self.now c.turns.self c.args.programs.now c.turns.programs c.args.observer.now c.turns.observer c.turns.invariant c.advance.new.self
    c.advance.new.programs c.advance.new.observer c.advance.ensures.config c.in_ok-ended.ensures.more c.in_ok-ended.ensures.stops

pub returns-then-are_parked-clause-rounds : goal.returns-then-are_parked-clause-rounds
returns-then-are_parked-clause-rounds g c = more_rounds g.J.Observer.steps g.J.Observer.fails g.P.Program.next g.P.Program.steps g.P.Program.words g.P.Program.most g.P.Program.valid c.args.self.now c.turns.self c.args.programs.now c.turns.programs c.args.observer.now c.turns.observer c.turns.invariant c.advance.new.self
    c.advance.new.programs c.advance.new.observer c.advance.ensures.config c.in_ok-ended.ensures.more None (subst (λ (o : Option End).
    IfNone o (length c.turns.self.collector.rows.rounds < length c.advance.new.self.collector.rows.rounds)) c.in_default.is c.in_ok-ended.ensures.rounds)

pub returns-then-are_parked-clause-parked : goal.returns-then-are_parked-clause-parked
returns-then-are_parked-clause-parked g c =
    let on = subst (λ (o : Option End). IfNone o (StandsBeforeStop g.P.Program.next g.P.Program.words g.P.Program.most g.P.Program.valid c.advance.new.self c.advance.new.programs ×
    ObservedFrom g.J.Observer.steps c.turns.self.collector c.turns.observer c.advance.new.self.collector true c.advance.new.observer)) c.in_default.is c.in_ok-ended.ensures.stands in (
      c.if-are_parked.ensures refl,
      on.0,
      observed_further g.J.Observer.steps g.J.Observer.fails g.P.Program.next g.P.Program.steps g.P.Program.words g.P.Program.most g.P.Program.valid c.args.self.now c.turns.self c.args.programs.now c.turns.programs c.args.observer.now c.turns.observer c.turns.invariant c.advance.new.self
          c.advance.new.programs c.advance.new.observer c.advance.ensures.config c.in_ok-ended.ensures.more true on.1,
    )

pub returns-then-are_parked-clause-gave : goal.returns-then-are_parked-clause-gave
returns-then-are_parked-clause-gave g c = gave_some_further g.J.Observer.steps g.J.Observer.fails g.P.Program.next g.P.Program.steps g.P.Program.words g.P.Program.most g.P.Program.valid c.args.self.now c.turns.self c.args.programs.now c.turns.programs c.args.observer.now c.turns.observer c.turns.invariant c.advance.new.programs c.advance.ensures.gave

-- the run was given up

pub returns-in_err-ended-clause-config : goal.returns-in_err-ended-clause-config
returns-in_err-ended-clause-config g c = c.advance.ensures.config ∙ c.turns.invariant.config

pub returns-in_err-ended-clause-err : goal.returns-in_err-ended-clause-err
returns-in_err-ended-clause-err g c = any_err _ (gave_up_further g.J.Observer.steps g.J.Observer.fails g.P.Program.next g.P.Program.steps g.P.Program.words g.P.Program.most g.P.Program.valid c.args.self.now c.turns.self c.args.programs.now c.turns.programs c.args.observer.now c.turns.observer c.turns.invariant c.advance.new.programs c.advance.new.observer c.in_err-ended.ensures.err)

pub returns-in_err-ended-clause-gave : goal.returns-in_err-ended-clause-gave
returns-in_err-ended-clause-gave g c = gave_some_further g.J.Observer.steps g.J.Observer.fails g.P.Program.next g.P.Program.steps g.P.Program.words g.P.Program.most g.P.Program.valid c.args.self.now c.turns.self c.args.programs.now c.turns.programs c.args.observer.now c.turns.observer c.turns.invariant c.advance.new.programs c.advance.ensures.gave
