use Rattle.nmgc_trace_checker.proofs.Happens.{taken}
use Rattle.nmgc_trace_checker.proofs.progress.Progress.take.Goals as goal

pub returns-in-Marking : goal.returns-in-Marking
returns-in-Marking c =
    taken c.args.self c.in-Marking.core c.take_name-happened.new.core c.args.mutator c.args.name c.take_name-happened.result c.keep_if_happened.result
    c.in-Marking.is c.take_name-happened.ensures c.keep_if_happened.ensures
