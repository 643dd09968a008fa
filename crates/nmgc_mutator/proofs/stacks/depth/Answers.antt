use Rattle.std.proofs.Common.{arith}
use Rattle.nmgc_mutator.proofs.Stacking.{deep_none, deep_peek, deep_more, deep_less, deep_end}
use Rattle.nmgc_mutator.proofs.stacks.depth.Goals as goal

pub loop-low-init : goal.loop-low-init
loop-low-init c = deep_none c.args.round.now c.args.seat.now c.args.at.0 c.args.slots c.requires.seat

pub load_slot-word-requires-clause-ready : goal.load_slot-word-requires-clause-ready
load_slot-word-requires-clause-ready c =
    let lt = c.loop-low-test.true in
    deep_peek c.args.round.now c.args.seat.now c.loop-low.seat c.args.at.0 c.args.slots c.loop-low.low c.loop-low.high _ c.requires.own
    c.loop-low.invariant (omega arith)

pub loop-low-preserved-then-word-eq0 : goal.loop-low-preserved-then-word-eq0
loop-low-preserved-then-word-eq0 c =
    let lt = c.loop-low-test.true in
    deep_less c.args.round.now c.args.seat.now c.loop-low.seat c.load_slot-word.new.seat c.args.at.0 c.args.slots c.loop-low.low c.loop-low.high _
    c.load_slot-word.result c.requires.own c.loop-low.invariant c.load_slot-word.ensures.view c.load_slot-word.ensures.shows (omega arith) (omega arith)
    c.if-word-eq0.true

pub loop-low-preserved : goal.loop-low-preserved
loop-low-preserved c =
    let lt = c.loop-low-test.true in
    deep_more c.args.round.now c.args.seat.now c.loop-low.seat c.load_slot-word.new.seat c.args.at.0 c.args.slots c.loop-low.low c.loop-low.high _
    c.load_slot-word.result c.requires.own c.loop-low.invariant c.load_slot-word.ensures.view c.load_slot-word.ensures.shows (omega arith) (omega arith)
    c.if-word-eq0.false

pub returns-clause-depth : goal.returns-clause-depth
returns-clause-depth c =
    let none = c.loop-low-test.false in
    deep_end c.args.round.now c.args.seat.now c.loop-low.seat c.args.at.0 c.args.slots c.loop-low.low c.loop-low.high c.loop-low.invariant
    (omega arith)
