use Rattle.nmgc_cycle.proofs.{Vocabulary.◌≡◌, Vocabulary.true, Vocabulary.HasAnswered, Vocabulary.lawful_are_of_runs, Vocabulary.report_of, Vocabulary.stop_is_lawful, sessions.Stops.closed_by_none, sessions.Stops.may_be, sessions.Stops.session_stopped, stops.Observing.once_handed, stops.Observing.stopped_any, stops.Reported.reported}
use Rattle.nmgc_cycle.specs.{Sessions.script_in, laws.Sessions.limits_now, laws.Sessions.script_now}
use Rattle.nmgc_cycle.proofs.session.Session.stop.Goals as goal

pub are_commands_left-left-requires : goal.are_commands_left-left-requires
are_commands_left-left-requires g c = λ k q e. (c.requires.queues k q e).0

pub stop_open-requires-clause-may : goal.stop_open-requires-clause-may
stop_open-requires-clause-may g c κs within = (
  script_in c.args.self.now,
  may_be c.args.self.now c.requires c.are_commands_left-left.result c.are_commands_left-left.ensures.is_open c.are_commands_left-left.ensures.closed
      (script_in c.args.self.now) (script_now true c.args.self.now c.requires),
)

pub returns-clause-session : goal.returns-clause-session
returns-clause-session g c = session_stopped c.args.self.now c.requires c.stop_open.new.self c.in_ok-answer.ensures.positions (λ t h.
    stopped_any t c.stop_open.new.self c.in_ok-answer.answer (c.in_ok-answer.ensures.each t
    (may_be c.args.self.now c.requires c.are_commands_left-left.result c.are_commands_left-left.ensures.is_open c.are_commands_left-left.ensures.closed t h)))

pub returns-clause-answered : goal.returns-clause-answered
returns-clause-answered g c = c.in_ok-answer.ensures.each (script_in c.args.self.now)
    (may_be c.args.self.now c.requires c.are_commands_left-left.result c.are_commands_left-left.ensures.is_open c.are_commands_left-left.ensures.closed
    (script_in c.args.self.now) (script_now true c.args.self.now c.requires))

pub returns-clause-done : goal.returns-clause-done
returns-clause-done g c = λ done. closed_by_none c.args.self.now.is_open c.are_commands_left-left.result c.are_commands_left-left.ensures.is_open
    (c.in_ok-answer.ensures.done done)

pub returns-clause-ended : goal.returns-clause-ended
returns-clause-ended g c = λ end ended.
    let script = script_in c.args.self.now in
    let limits = limits_now true c.args.self.now c.requires in
    let lawful = stop_is_lawful script (report_of c.stop_open.new.self end) limits (reported script c.stop_open.new.self end ended) in
    (lawful_are_of_runs script (report_of c.stop_open.new.self end) limits lawful).0

pub returns-clause-once : goal.returns-clause-once
returns-clause-once g c = λ none. once_handed (script_in c.args.self.now) c.args.self.now.collector c.stop_open.new.self c.in_ok-answer.answer c.args.rows.now.cycles
    c.stop_open.new.rows.cycles (c.in_ok-answer.ensures.each (script_in c.args.self.now)
    (may_be c.args.self.now c.requires c.are_commands_left-left.result c.are_commands_left-left.ensures.is_open c.are_commands_left-left.ensures.closed
    (script_in c.args.self.now) (script_now true c.args.self.now c.requires))) c.in_ok-answer.ensures.cycles none
