use Rattle.std.proofs.Common.{refl}
use Rattle.nmgc_cycle.proofs.stops.Forgetting.{draining_none, draining_more, drained, drained_took, drained_line, fewer_wait}
use Rattle.nmgc_cycle.proofs.cycle.forget.Goals as goal

pub loop-block-init : goal.loop-block-init
loop-block-init c = draining_none c.args.inbox.now c.args.number c.args.mutator.now c.requires

pub take_block-requires : goal.take_block-requires
take_block-requires c = c.loop-block.invariant.paired

pub loop-block-preserved : goal.loop-block-preserved
loop-block-preserved c =
    let l = c.loop-block in
    draining_more c.args.inbox.now l.inbox c.take_block.new.inbox c.args.number c.args.mutator.now l.mutator c.take_block.new.mutator
    c.in-Some._block l.invariant c.take_block.ensures.rest c.in-Some.ensures.some

pub loop-block-smaller : goal.loop-block-smaller
loop-block-smaller c =
    let l = c.loop-block in
    fewer_wait l.inbox c.take_block.new.inbox c.args.number l.mutator.sender c.take_block.new.mutator.sender c.in-Some._block c.in-Some.ensures.some

pub returns-clause-forgot : goal.returns-clause-forgot
returns-clause-forgot c =
    let l = c.loop-block in
    drained c.args.inbox.now l.inbox c.take_block.new.inbox c.clear.new.self c.args.number c.args.mutator.now l.mutator c.take_block.new.mutator
    (record c.take_block.new.mutator {
      updrem =
          c.clear-2.new.self;
    }) l.invariant c.take_block.ensures.rest c.in_default.ensures.none c.clear.ensures refl c.clear-2.ensures.entries

pub returns-clause-inbox : goal.returns-clause-inbox
returns-clause-inbox c =
    let l = c.loop-block in
    drained_took c.args.inbox.now l.inbox c.take_block.new.inbox c.clear.new.self c.args.number c.args.mutator.now l.mutator
    c.take_block.new.mutator (record c.take_block.new.mutator {
      updrem =
          c.clear-2.new.self;
    }) l.invariant c.take_block.ensures.rest c.in_default.ensures.none c.clear.ensures refl c.clear-2.ensures.entries

pub returns-clause-line : goal.returns-clause-line
returns-clause-line c =
    let l = c.loop-block in
    drained_line c.args.inbox.now l.inbox c.take_block.new.inbox c.clear.new.self c.args.number c.args.mutator.now l.mutator
    c.take_block.new.mutator (record c.take_block.new.mutator {
      updrem =
          c.clear-2.new.self;
    }) l.invariant c.take_block.ensures.rest c.in_default.ensures.none c.clear.ensures refl c.clear-2.ensures.entries
