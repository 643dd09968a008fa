use Rattle.nmgc_live.proofs.Stepping.{round_did}
use Rattle.nmgc_live.proofs.session.round.Goals as goal

pub returns-clause-did : goal.returns-clause-did
returns-clause-did g c = round_did c.args.session.now c.round.new.self c.args.report.now c.observe.new.self c.in_ok-rows.rows c.in_ok-rows.ensures.reported
    c.in_ok-rows.ensures.stops c.in_ok-rows.ensures.cycles c.in_ok-observe.ensures.ok
