use Rattle.nmgc_barrier_checker.proofs.RowLaws.{emptied_more}
use Rattle.nmgc_barrier_checker.proofs.rows.nil_tasks.Goals as goal

pub loop-register-preserved : goal.loop-register-preserved
loop-register-preserved c =
    emptied_more c.loop-register.register c.loop-register.tasks c.push.new.self _
    c.loop-register.invariant c.in_ok-push.ensures.ok c.task_of.ensures
