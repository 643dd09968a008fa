use Rattle.nmgc_trace_checker.proofs.Happens.{answered, passed}
use Rattle.nmgc_trace_checker.proofs.progress.Progress.do_event.Goals as goal

pub returns-in-Building : goal.returns-in-Building
returns-in-Building c =
    answered c.args.self c.in-Building.built c.apply_answered-happened.new.self c.args.event.now c.apply_answered-happened.result
    c.keep_if_happened.result c.in-Building.is c.apply_answered-happened.ensures c.keep_if_happened.ensures

pub returns-in-Marking : goal.returns-in-Marking
returns-in-Marking c =
    passed c.args.self c.in-Marking.core c.step-happened.new.self c.args.event.now c.step-happened.result c.keep_if_happened-in-Marking.result
    c.in-Marking.is c.step-happened.ensures.done c.keep_if_happened-in-Marking.ensures
