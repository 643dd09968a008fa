use Rattle.nmgc_trace_checker.proofs.{Vocabulary.arith, Vocabulary.subst, Vocabulary.Bool, Vocabulary.Passes, Drains.scans_more, Drains.drained, Drains.drained_out}
use Rattle.nmgc_snapshot_laws.specs.declared.event.Event.TheVariants as event
use Rattle.nmgc_trace_checker.proofs.progress.drain.Goals as goal

pub loop-preserved : goal.loop-preserved
loop-preserved c =
    let P : Bool → Type 0 = λ done. Passes c.loop.core event.Scan done c.step.new.self in
    scans_more c.args.core.now c.loop.core c.step.new.self c.loop.counter c.loop.invariant (subst P c.if-not-branch.false c.in_ok-step.ensures.done)

pub returns-then-not-branch : goal.returns-then-not-branch
returns-then-not-branch c =
    let P : Bool → Type 0 = λ done. Passes c.loop.core event.Scan done c.step.new.self in
    drained c.args.core.now c.loop.core c.step.new.self c.loop.counter c.loop.invariant (subst P c.if-not-branch.true c.in_ok-step.ensures.done)

pub returns : goal.returns
returns c = drained_out c.args.core.now c.loop.core c.loop.counter c.loop.invariant (omega arith)
