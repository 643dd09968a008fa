use Rattle.nmgc_barrier_checker.proofs.RowLaws.{filled_more}
use Rattle.nmgc_barrier_checker.proofs.rows.add_fill.Goals as goal

pub loop-turn-preserved : goal.loop-turn-preserved
loop-turn-preserved c =
    filled_more c.args.filling c.loop-turn.turn c.args.tasks.now c.loop-turn.tasks c.push.new.self c.fill_store.result c.loop-turn.invariant
    c.in_ok-push.ensures.ok c.fill_store.ensures
