use Rattle.nmgc_cycle.proofs.{Vocabulary.ap, Vocabulary.subst, Vocabulary.◌∙◌, Vocabulary.List, Vocabulary.length, Vocabulary.[], Vocabulary.◌∷◌, Vocabulary.length-append, Vocabulary.arith, Vocabulary.ProgramRun, Vocabulary.StopEnd, Vocabulary.StopRow, Vocabulary.HasDoneStop, Vocabulary.RoundRows, Vocabulary.StandsAfterStop, Vocabulary.stays, rounds.StopByStop.HandsRoundOn, rounds.StopByStop.HandsRowsOn, rounds.StopByStop.config_stays, rounds.StopByStop.event_gave_up, rounds.StopByStop.last_event_gave_up, rounds.StopByStop.none_since, rounds.StopByStop.one_further, rounds.StopByStop.one_row_more, rounds.StopByStop.round_gave_more, rounds.StopByStop.round_gave_up, rounds.StopByStop.round_on, rounds.StopByStop.stop_gave_none, rounds.StopByStop.stop_gave_up, rounds.StopByStop.stop_on, stops.Observing.any_err, stops.Observing.once_handed}
use Rattle.nmgc_cycle.proofs.program_run.ProgramRun.advance.Goals as goal

pub observe_stop-requires : goal.observe_stop-requires
observe_stop-requires g c = once_handed _ c.args.self.now.collector c.stop.new.self.collector c.in_ok-answer.answer c.new-handed.result.cycles
    c.stop.new.rows.cycles c.in_ok-answer.ensures.answered.1 c.in_ok-answer.ensures.cycles c.new-handed.ensures.1

pub round-requires-clause-stands : goal.round-requires-clause-stands
round-requires-clause-stands g c κs within =
    subst (λ (answer : StopEnd). StandsAfterStop g.P.Program.next g.P.Program.words g.P.Program.most g.P.Program.valid c.stop.new.self c.args.programs.now answer) c.in-GoOn.is c.in_ok-answer.ensures.answered

-- the run goes on

pub returns-in_ok-observe-in-GoOn-clause-config : goal.returns-in_ok-observe-in-GoOn-clause-config
returns-in_ok-observe-in-GoOn-clause-config g c =
    let h : HandsRowsOn c.args.self.now c.stop.new.self c.stop.new.rows.stop c.new-handed.result.cycles c.stop.new.rows.cycles = record {
      rest = c.stop.ensures.rest;
      rounds = c.in_ok-answer.ensures.rounds;
      row = c.in_ok-answer.ensures.stops.0;
      stops = c.in_ok-answer.ensures.stops.1;
      stop_is = c.in_ok-answer.ensures.stops.2;
      number = c.in_ok-answer.ensures.stops.3;
      hands = c.in_ok-answer.ensures.cycles;
      none_is = c.new-handed.ensures.1;
    } in
    c.round.ensures.config ∙ config_stays g.J.Observer.steps g.J.Observer.fails g.P.Program.next g.P.Program.steps g.P.Program.words g.P.Program.most g.P.Program.valid c.args.self.now c.args.programs.now c.requires.stands c.stop.new.self c.stop.new.rows.stop c.new-handed.result.cycles c.stop.new.rows.cycles h c.in_ok-answer.answer c.in_ok-answer.ensures.answered

pub returns-in_ok-observe-in-GoOn-clause-more : goal.returns-in_ok-observe-in-GoOn-clause-more
returns-in_ok-observe-in-GoOn-clause-more g c =
    let h : HandsRowsOn c.args.self.now c.stop.new.self c.stop.new.rows.stop c.new-handed.result.cycles c.stop.new.rows.cycles = record {
      rest = c.stop.ensures.rest;
      rounds = c.in_ok-answer.ensures.rounds;
      row = c.in_ok-answer.ensures.stops.0;
      stops = c.in_ok-answer.ensures.stops.1;
      stop_is = c.in_ok-answer.ensures.stops.2;
      number = c.in_ok-answer.ensures.stops.3;
      hands = c.in_ok-answer.ensures.cycles;
      none_is = c.new-handed.ensures.1;
    } in
    round_gave_more g.J.Observer.steps g.J.Observer.fails g.P.Program.next g.P.Program.steps g.P.Program.words g.P.Program.most g.P.Program.valid c.args.self.now c.args.programs.now c.requires.stands c.stop.new.self c.stop.new.rows.stop c.new-handed.result.cycles c.stop.new.rows.cycles h c.in_ok-answer.answer c.in_ok-answer.ensures.answered c.round.new.programs c.round.new.self.given.value
    c.in_ok-rows-in-GoOn.ensures.more

pub returns-in_ok-observe-in-GoOn-clause-stands : goal.returns-in_ok-observe-in-GoOn-clause-stands
returns-in_ok-observe-in-GoOn-clause-stands g c =
    let h : HandsRowsOn c.args.self.now c.stop.new.self c.stop.new.rows.stop c.new-handed.result.cycles c.stop.new.rows.cycles = record {
      rest = c.stop.ensures.rest;
      rounds = c.in_ok-answer.ensures.rounds;
      row = c.in_ok-answer.ensures.stops.0;
      stops = c.in_ok-answer.ensures.stops.1;
      stop_is = c.in_ok-answer.ensures.stops.2;
      number = c.in_ok-answer.ensures.stops.3;
      hands = c.in_ok-answer.ensures.cycles;
      none_is = c.new-handed.ensures.1;
    } in
    let r : HandsRoundOn c.stop.new.self c.round.new.self c.in_ok-rows-in-GoOn.rows = record {
      reported = c.in_ok-rows-in-GoOn.ensures.reported;
      stops = c.in_ok-rows-in-GoOn.ensures.stops;
      cycles = c.in_ok-rows-in-GoOn.ensures.cycles;
    } in (
      c.in_ok-rows-in-GoOn.ensures.stands,
      round_on g.J.Observer.steps c.args.self.now c.stop.new.self c.round.new.self c.in_ok-rows-in-GoOn.rows c.args.observer.now c.observe_stop.new.observer c.observe.new.self
          (stop_on g.J.Observer.steps c.args.self.now c.stop.new.self c.stop.new.rows.stop c.new-handed.result.cycles c.stop.new.rows.cycles c.args.observer.now c.observe_stop.new.observer h c.in_ok-observe_stop.ensures.ok) r c.in_ok-observe-in-GoOn.ensures.ok,
    )

pub returns-in_ok-observe-in-GoOn-clause-goes_on : goal.returns-in_ok-observe-in-GoOn-clause-goes_on
returns-in_ok-observe-in-GoOn-clause-goes_on g c =
    let did : HasDoneStop g.P.Program.next c.args.programs.now c.args.self.now c.stop.new.self = record { rest = c.stop.ensures.rest; after = c.in_ok-answer.ensures.after; freed = c.in_ok-answer.ensures.freed } in
    one_further g.P.Program.next g.P.Program.steps g.P.Program.words g.P.Program.most g.P.Program.valid c.args.self.now c.stop.new.self c.round.new.self c.args.programs.now c.round.new.programs did (record {
      config = c.round.ensures.config;
      more = c.in_ok-rows-in-GoOn.ensures.more;
      did = c.in_ok-rows-in-GoOn.ensures.did;
      tried = c.in_ok-rows-in-GoOn.ensures.mutator_turns;
    })

pub returns-in_ok-observe-in-GoOn-clause-rounds : goal.returns-in_ok-observe-in-GoOn-clause-rounds
returns-in_ok-observe-in-GoOn-clause-rounds g c =
    let reported = ap (λ (l : List RoundRows). length l) c.in_ok-rows-in-GoOn.ensures.reported in
    let all = length-append c.stop.new.self.collector.rows.rounds (c.in_ok-rows-in-GoOn.rows ∷ []) in
    let same = ap (λ (l : List RoundRows). length l) c.in_ok-answer.ensures.rounds in
    omega (arith, reported, all, same)

pub returns-in_ok-observe-in-GoOn-clause-stops : goal.returns-in_ok-observe-in-GoOn-clause-stops
returns-in_ok-observe-in-GoOn-clause-stops g c =
    let more = one_row_more c.args.self.now.collector.rows.stops c.stop.new.self.collector.rows.stops c.in_ok-answer.ensures.stops.0
    c.in_ok-answer.ensures.stops.1 in
    let same = ap (λ (l : List StopRow). length l) c.in_ok-rows-in-GoOn.ensures.stops in
    omega (arith, more, same)

-- the run ended

pub returns-in-Done-clause-more : goal.returns-in-Done-clause-more
returns-in-Done-clause-more g c =
    let h : HandsRowsOn c.args.self.now c.stop.new.self c.stop.new.rows.stop c.new-handed.result.cycles c.stop.new.rows.cycles = record {
      rest = c.stop.ensures.rest;
      rounds = c.in_ok-answer.ensures.rounds;
      row = c.in_ok-answer.ensures.stops.0;
      stops = c.in_ok-answer.ensures.stops.1;
      stop_is = c.in_ok-answer.ensures.stops.2;
      number = c.in_ok-answer.ensures.stops.3;
      hands = c.in_ok-answer.ensures.cycles;
      none_is = c.new-handed.ensures.1;
    } in
    stop_gave_none g.J.Observer.steps g.J.Observer.fails g.P.Program.next g.P.Program.steps g.P.Program.words g.P.Program.most g.P.Program.valid c.args.self.now c.args.programs.now c.requires.stands c.stop.new.self c.stop.new.rows.stop c.new-handed.result.cycles c.stop.new.rows.cycles h c.in_ok-answer.answer c.in_ok-answer.ensures.answered

pub returns-in-Done-clause-ended : goal.returns-in-Done-clause-ended
returns-in-Done-clause-ended g c =
    let h : HandsRowsOn c.args.self.now c.stop.new.self c.stop.new.rows.stop c.new-handed.result.cycles c.stop.new.rows.cycles = record {
      rest = c.stop.ensures.rest;
      rounds = c.in_ok-answer.ensures.rounds;
      row = c.in_ok-answer.ensures.stops.0;
      stops = c.in_ok-answer.ensures.stops.1;
      stop_is = c.in_ok-answer.ensures.stops.2;
      number = c.in_ok-answer.ensures.stops.3;
      hands = c.in_ok-answer.ensures.cycles;
      none_is = c.new-handed.ensures.1;
    } in (
      subst (λ (answer : StopEnd). StandsAfterStop g.P.Program.next g.P.Program.words g.P.Program.most g.P.Program.valid c.stop.new.self c.args.programs.now answer) c.in-Done.is c.in_ok-answer.ensures.answered,
      stop_on g.J.Observer.steps c.args.self.now c.stop.new.self c.stop.new.rows.stop c.new-handed.result.cycles c.stop.new.rows.cycles c.args.observer.now c.observe_stop.new.observer h c.in_ok-observe_stop.ensures.ok,
    )

pub returns-in-Done-clause-goes_on : goal.returns-in-Done-clause-goes_on
returns-in-Done-clause-goes_on g c = (c.args.self.now, stays, record { rest = c.stop.ensures.rest; after = c.in_ok-answer.ensures.after; freed = c.in_ok-answer.ensures.freed })

pub returns-in-Done-clause-stops : goal.returns-in-Done-clause-stops
returns-in-Done-clause-stops g c =
    one_row_more c.args.self.now.collector.rows.stops c.stop.new.self.collector.rows.stops c.in_ok-answer.ensures.stops.0 c.in_ok-answer.ensures.stops.1

pub returns-in-Done-clause-config : goal.returns-in-Done-clause-config
returns-in-Done-clause-config g c =
    let h : HandsRowsOn c.args.self.now c.stop.new.self c.stop.new.rows.stop c.new-handed.result.cycles c.stop.new.rows.cycles = record {
      rest = c.stop.ensures.rest;
      rounds = c.in_ok-answer.ensures.rounds;
      row = c.in_ok-answer.ensures.stops.0;
      stops = c.in_ok-answer.ensures.stops.1;
      stop_is = c.in_ok-answer.ensures.stops.2;
      number = c.in_ok-answer.ensures.stops.3;
      hands = c.in_ok-answer.ensures.cycles;
      none_is = c.new-handed.ensures.1;
    } in
    config_stays g.J.Observer.steps g.J.Observer.fails g.P.Program.next g.P.Program.steps g.P.Program.words g.P.Program.most g.P.Program.valid c.args.self.now c.args.programs.now c.requires.stands c.stop.new.self c.stop.new.rows.stop c.new-handed.result.cycles c.stop.new.rows.cycles h c.in_ok-answer.answer c.in_ok-answer.ensures.answered

pub returns-in-Done-clause-gave : goal.returns-in-Done-clause-gave
returns-in-Done-clause-gave g c = none_since g.J.Observer.steps g.J.Observer.fails g.P.Program.next g.P.Program.steps g.P.Program.words g.P.Program.most g.P.Program.valid c.args.self.now c.args.programs.now c.requires.stands

pub returns-in-HeapFull-clause-more : goal.returns-in-HeapFull-clause-more
returns-in-HeapFull-clause-more g c =
    let h : HandsRowsOn c.args.self.now c.stop.new.self c.stop.new.rows.stop c.new-handed.result.cycles c.stop.new.rows.cycles = record {
      rest = c.stop.ensures.rest;
      rounds = c.in_ok-answer.ensures.rounds;
      row = c.in_ok-answer.ensures.stops.0;
      stops = c.in_ok-answer.ensures.stops.1;
      stop_is = c.in_ok-answer.ensures.stops.2;
      number = c.in_ok-answer.ensures.stops.3;
      hands = c.in_ok-answer.ensures.cycles;
      none_is = c.new-handed.ensures.1;
    } in
    stop_gave_none g.J.Observer.steps g.J.Observer.fails g.P.Program.next g.P.Program.steps g.P.Program.words g.P.Program.most g.P.Program.valid c.args.self.now c.args.programs.now c.requires.stands c.stop.new.self c.stop.new.rows.stop c.new-handed.result.cycles c.stop.new.rows.cycles h c.in_ok-answer.answer c.in_ok-answer.ensures.answered

pub returns-in-HeapFull-clause-ended : goal.returns-in-HeapFull-clause-ended
returns-in-HeapFull-clause-ended g c =
    let h : HandsRowsOn c.args.self.now c.stop.new.self c.stop.new.rows.stop c.new-handed.result.cycles c.stop.new.rows.cycles = record {
      rest = c.stop.ensures.rest;
      rounds = c.in_ok-answer.ensures.rounds;
      row = c.in_ok-answer.ensures.stops.0;
      stops = c.in_ok-answer.ensures.stops.1;
      stop_is = c.in_ok-answer.ensures.stops.2;
      number = c.in_ok-answer.ensures.stops.3;
      hands = c.in_ok-answer.ensures.cycles;
      none_is = c.new-handed.ensures.1;
    } in (
      subst (λ (answer : StopEnd). StandsAfterStop g.P.Program.next g.P.Program.words g.P.Program.most g.P.Program.valid c.stop.new.self c.args.programs.now answer) c.in-HeapFull.is c.in_ok-answer.ensures.answered,
      stop_on g.J.Observer.steps c.args.self.now c.stop.new.self c.stop.new.rows.stop c.new-handed.result.cycles c.stop.new.rows.cycles c.args.observer.now c.observe_stop.new.observer h c.in_ok-observe_stop.ensures.ok,
    )

pub returns-in-HeapFull-clause-goes_on : goal.returns-in-HeapFull-clause-goes_on
returns-in-HeapFull-clause-goes_on g c = (c.args.self.now, stays, record { rest = c.stop.ensures.rest; after = c.in_ok-answer.ensures.after; freed = c.in_ok-answer.ensures.freed })

pub returns-in-HeapFull-clause-stops : goal.returns-in-HeapFull-clause-stops
returns-in-HeapFull-clause-stops g c =
    one_row_more c.args.self.now.collector.rows.stops c.stop.new.self.collector.rows.stops c.in_ok-answer.ensures.stops.0 c.in_ok-answer.ensures.stops.1

pub returns-in-HeapFull-clause-config : goal.returns-in-HeapFull-clause-config
returns-in-HeapFull-clause-config g c =
    let h : HandsRowsOn c.args.self.now c.stop.new.self c.stop.new.rows.stop c.new-handed.result.cycles c.stop.new.rows.cycles = record {
      rest = c.stop.ensures.rest;
      rounds = c.in_ok-answer.ensures.rounds;
      row = c.in_ok-answer.ensures.stops.0;
      stops = c.in_ok-answer.ensures.stops.1;
      stop_is = c.in_ok-answer.ensures.stops.2;
      number = c.in_ok-answer.ensures.stops.3;
      hands = c.in_ok-answer.ensures.cycles;
      none_is = c.new-handed.ensures.1;
    } in
    config_stays g.J.Observer.steps g.J.Observer.fails g.P.Program.next g.P.Program.steps g.P.Program.words g.P.Program.most g.P.Program.valid c.args.self.now c.args.programs.now c.requires.stands c.stop.new.self c.stop.new.rows.stop c.new-handed.result.cycles c.stop.new.rows.cycles h c.in_ok-answer.answer c.in_ok-answer.ensures.answered

pub returns-in-HeapFull-clause-gave : goal.returns-in-HeapFull-clause-gave
returns-in-HeapFull-clause-gave g c = none_since g.J.Observer.steps g.J.Observer.fails g.P.Program.next g.P.Program.steps g.P.Program.words g.P.Program.most g.P.Program.valid c.args.self.now c.args.programs.now c.requires.stands

-- the run was given up

pub returns-in_err-answer-clause-config : goal.returns-in_err-answer-clause-config
returns-in_err-answer-clause-config g c = ap (λ (r : ProgramRun). r.config) c.stop.ensures.rest

pub returns-in_err-answer-clause-err : goal.returns-in_err-answer-clause-err
returns-in_err-answer-clause-err g c = any_err _ (stop_gave_up g.J.Observer.steps g.J.Observer.fails g.P.Program.next g.P.Program.steps g.P.Program.words g.P.Program.most g.P.Program.valid c.args.self.now c.args.programs.now c.requires.stands c.args.observer.now)

pub returns-in_err-answer-clause-gave : goal.returns-in_err-answer-clause-gave
returns-in_err-answer-clause-gave g c = none_since g.J.Observer.steps g.J.Observer.fails g.P.Program.next g.P.Program.steps g.P.Program.words g.P.Program.most g.P.Program.valid c.args.self.now c.args.programs.now c.requires.stands

pub returns-in_err-observe_stop-clause-config : goal.returns-in_err-observe_stop-clause-config
returns-in_err-observe_stop-clause-config g c = ap (λ (r : ProgramRun). r.config) c.stop.ensures.rest

pub returns-in_err-observe_stop-clause-err : goal.returns-in_err-observe_stop-clause-err
returns-in_err-observe_stop-clause-err g c =
    let h : HandsRowsOn c.args.self.now c.stop.new.self c.stop.new.rows.stop c.new-handed.result.cycles c.stop.new.rows.cycles = record {
      rest = c.stop.ensures.rest;
      rounds = c.in_ok-answer.ensures.rounds;
      row = c.in_ok-answer.ensures.stops.0;
      stops = c.in_ok-answer.ensures.stops.1;
      stop_is = c.in_ok-answer.ensures.stops.2;
      number = c.in_ok-answer.ensures.stops.3;
      hands = c.in_ok-answer.ensures.cycles;
      none_is = c.new-handed.ensures.1;
    } in
    any_err _ (event_gave_up g.J.Observer.steps g.J.Observer.fails g.P.Program.next g.P.Program.steps g.P.Program.words g.P.Program.most g.P.Program.valid c.args.self.now c.args.programs.now c.requires.stands c.stop.new.self c.stop.new.rows.stop c.new-handed.result.cycles c.stop.new.rows.cycles h c.in_ok-answer.answer c.in_ok-answer.ensures.answered c.args.observer.now c.observe_stop.new.observer c.in_err-observe_stop.ensures.err)

pub returns-in_err-observe_stop-clause-gave : goal.returns-in_err-observe_stop-clause-gave
returns-in_err-observe_stop-clause-gave g c = none_since g.J.Observer.steps g.J.Observer.fails g.P.Program.next g.P.Program.steps g.P.Program.words g.P.Program.most g.P.Program.valid c.args.self.now c.args.programs.now c.requires.stands

pub returns-in_err-rows-in-GoOn-clause-config : goal.returns-in_err-rows-in-GoOn-clause-config
returns-in_err-rows-in-GoOn-clause-config g c = c.round.ensures.config ∙ ap (λ (r : ProgramRun). r.config) c.stop.ensures.rest

pub returns-in_err-rows-in-GoOn-clause-err : goal.returns-in_err-rows-in-GoOn-clause-err
returns-in_err-rows-in-GoOn-clause-err g c =
    let h : HandsRowsOn c.args.self.now c.stop.new.self c.stop.new.rows.stop c.new-handed.result.cycles c.stop.new.rows.cycles = record {
      rest = c.stop.ensures.rest;
      rounds = c.in_ok-answer.ensures.rounds;
      row = c.in_ok-answer.ensures.stops.0;
      stops = c.in_ok-answer.ensures.stops.1;
      stop_is = c.in_ok-answer.ensures.stops.2;
      number = c.in_ok-answer.ensures.stops.3;
      hands = c.in_ok-answer.ensures.cycles;
      none_is = c.new-handed.ensures.1;
    } in
    any_err _ (round_gave_up g.J.Observer.steps g.J.Observer.fails g.P.Program.next g.P.Program.steps g.P.Program.words g.P.Program.most g.P.Program.valid c.args.self.now c.args.programs.now c.requires.stands c.stop.new.self c.stop.new.rows.stop c.new-handed.result.cycles c.stop.new.rows.cycles h c.in_ok-answer.answer c.in_ok-answer.ensures.answered c.round.new.programs c.args.observer.now c.observe_stop.new.observer
    (stop_on g.J.Observer.steps c.args.self.now c.stop.new.self c.stop.new.rows.stop c.new-handed.result.cycles c.stop.new.rows.cycles c.args.observer.now c.observe_stop.new.observer h c.in_ok-observe_stop.ensures.ok) c.round.ensures.gave c.in_err-rows-in-GoOn.ensures.replied)

pub returns-in_err-observe-in-GoOn-clause-config : goal.returns-in_err-observe-in-GoOn-clause-config
returns-in_err-observe-in-GoOn-clause-config g c = c.round.ensures.config ∙ ap (λ (r : ProgramRun). r.config) c.stop.ensures.rest

pub returns-in_err-observe-in-GoOn-clause-err : goal.returns-in_err-observe-in-GoOn-clause-err
returns-in_err-observe-in-GoOn-clause-err g c =
    let h : HandsRowsOn c.args.self.now c.stop.new.self c.stop.new.rows.stop c.new-handed.result.cycles c.stop.new.rows.cycles = record {
      rest = c.stop.ensures.rest;
      rounds = c.in_ok-answer.ensures.rounds;
      row = c.in_ok-answer.ensures.stops.0;
      stops = c.in_ok-answer.ensures.stops.1;
      stop_is = c.in_ok-answer.ensures.stops.2;
      number = c.in_ok-answer.ensures.stops.3;
      hands = c.in_ok-answer.ensures.cycles;
      none_is = c.new-handed.ensures.1;
    } in
    let r : HandsRoundOn c.stop.new.self c.round.new.self c.in_ok-rows-in-GoOn.rows = record {
      reported = c.in_ok-rows-in-GoOn.ensures.reported;
      stops = c.in_ok-rows-in-GoOn.ensures.stops;
      cycles = c.in_ok-rows-in-GoOn.ensures.cycles;
    } in
    any_err _ (last_event_gave_up g.J.Observer.steps g.J.Observer.fails g.P.Program.next g.P.Program.steps g.P.Program.words g.P.Program.most g.P.Program.valid c.args.self.now c.args.programs.now c.requires.stands c.stop.new.self c.stop.new.rows.stop c.new-handed.result.cycles c.stop.new.rows.cycles h c.in_ok-answer.answer c.in_ok-answer.ensures.answered c.round.new.self c.round.new.programs c.in_ok-rows-in-GoOn.rows c.args.observer.now
    c.observe_stop.new.observer c.observe.new.self c.round.ensures.config c.in_ok-rows-in-GoOn.ensures.more c.in_ok-rows-in-GoOn.ensures.stands
    (stop_on g.J.Observer.steps c.args.self.now c.stop.new.self c.stop.new.rows.stop c.new-handed.result.cycles c.stop.new.rows.cycles c.args.observer.now c.observe_stop.new.observer h c.in_ok-observe_stop.ensures.ok) r c.in_err-observe-in-GoOn.ensures.err)
