use Rattle.std.proofs.lemmas.List.{take_all}
use Rattle.nmgc_core.proofs.Waiting.{waiting_listed}
use Rattle.nmgc_core.proofs.closing.waiting_weaks.Goals as goal

pub returns : goal.returns
returns c =
    rw (c.loop-weak.invariant, take_all c.loop-weak.weak-index c.items-weak-items.result.now c.loop-weak-test.false, c.items-weak-items.ensures)
    (waiting_listed c.args.core.now c.ended.inside.rows (rw (
      ← c.ended.view_is,
      c.snapshot-snapshot.ensures,
      c.finalised.ensures,
    ) at c.in_ok-ended.ensures) c.in_ok-alive.alive (rw c.snapshot-snapshot.ensures at c.in_ok-alive.ensures))
