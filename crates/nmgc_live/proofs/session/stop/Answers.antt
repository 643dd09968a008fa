use Rattle.std.proofs.Common.{◌≡◌, ◌∙◌, ◌++◌, Option, subst, sym}
use Rattle.nmgc_journal.specs.declared.report.End.{End}
use Rattle.nmgc_live.specs.Steps.{DidStop, tail_of}
use Rattle.nmgc_live.proofs.Stepping.{stop_did}
use Rattle.nmgc_live.proofs.session.stop.Goals as goal

pub push_rows-requires : goal.push_rows-requires
push_rows-requires g c = record {
  once = c.in_ok-answer.ensures.once c.new-rows.ensures.1;
  stop = (c.in_ok-answer.ensures.stops.0, c.in_ok-answer.ensures.stops.2);
}

pub returns-clause-did : goal.returns-clause-did
returns-clause-did g c =
    let row = c.in_ok-answer.ensures.stops.0 in
    let old = c.args.session.now in
    let new = c.stop.new.self in
    subst (DidStop c.args.is_open old new c.args.report.now c.push_tail.new.report) (sym c.end_of-end.ensures)
    (stop_did c.args.is_open old new c.args.report.now c.push_rows.new.report c.push_tail.new.report row c.new-rows.result.cycles c.stop.new.rows.cycles
    c.in_ok-answer.answer c.new-rows.ensures.1 c.in_ok-answer.ensures.stops.3 c.in_ok-answer.ensures.rounds c.in_ok-answer.ensures.stops.1
    c.in_ok-answer.ensures.cycles c.in_ok-answer.ensures.answered
    (λ e. sym c.requires.is_open ∙ c.in_ok-answer.ensures.done e) c.in_ok-answer.ensures.ended
    (c.in_ok-push_rows.ensures row c.in_ok-answer.ensures.stops.2)
    (subst (λ (end : Option End). c.push_tail.new.report.text.items ≡ c.push_rows.new.report.text.items ++ tail_of c.args.is_open end) c.end_of-end.ensures
    c.in_ok-push_tail.ensures.text) c.in_ok-push_tail.ensures.round)
