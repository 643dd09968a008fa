use Rattle.nmgc_barrier_checker.proofs.RowLaws.{copied_more}
use Rattle.nmgc_barrier_checker.proofs.rows.copy_tasks.Goals as goal

pub loop-turn-preserved : goal.loop-turn-preserved
loop-turn-preserved c =
    copied_more c.args.copying c.loop-turn.turn c.loop-turn.tasks c.push.new.self c.push-in-loop-turn.new.self c.copy_load.result c.copy_store.result
    c.loop-turn.invariant c.in_ok-push.ensures.ok c.in_ok-push-2.ensures.ok c.copy_load.ensures c.copy_store.ensures
