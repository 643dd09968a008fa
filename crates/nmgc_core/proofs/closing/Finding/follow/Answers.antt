use Rattle.std.proofs.Common.{sym}
use Rattle.nmgc_core.proofs.Followed.{follow_none, follow_nothing, follow_fields}
use Rattle.nmgc_core.proofs.closing.Finding.follow.Goals as goal

pub loop-name-init : goal.loop-name-init
loop-name-init c = follow_none c.args.core.now c.args.self.now c.requires

pub loop-name-preserved-in-Continue-1 : goal.loop-name-preserved-in-Continue-1
loop-name-preserved-in-Continue-1 c =
    follow_fields c.args.core.now c.args.self.now c.loop-name.self c.pop.new.self c.in-Some.name c.in-Some.ensures.last c.loop-name.invariant
    c.in-Some-node.node.now
    (rw c.world-world.ensures at (sym c.in-Some-node.ensures)) c.mark_fields.new.self (rw c.snapshot-snapshot.ensures at c.in_ok-mark_fields.ensures)

pub loop-name-preserved : goal.loop-name-preserved
loop-name-preserved c =
    follow_nothing c.args.core.now c.args.self.now c.loop-name.self c.pop.new.self c.in-Some.name c.in-Some.ensures.last c.loop-name.invariant
    (rw c.world-world.ensures at (sym c.in_default-node.ensures))
