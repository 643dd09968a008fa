use Rattle.std.proofs.Common.{refl}
use Rattle.nmgc_cycle.proofs.{stops.Adding.giving_none, stops.Adding.giving_more, stops.Adding.giving_paired, stops.Adding.given_all, stops.Adding.given_rest, stops.Adding.given_took, stops.Adding.given_paired, stops.Forgetting.fewer_wait}
use Rattle.nmgc_cycle.proofs.cycle.add_one.Goals as goal

pub loop-block-init : goal.loop-block-init
loop-block-init c =
    let line = c.requires.line in
    giving_none c.args.segments.now c.add.new.segments c.args.marker.now c.add.new.self c.args.inbox.now c.args.inbox.now c.args.number
    c.args.mutator.now c.args.mutator.now line c.entries.result.now (c.entries.ensures line.0 line.1) (record {
      marked = c.add.ensures.marked;
      tied = c.add.ensures.tied;
      turns = c.add.ensures.turns;
    }) refl refl

pub take_block-requires : goal.take_block-requires
take_block-requires c = let l = c.loop-block in
    giving_paired c.args.segments.now l.segments c.args.marker.now l.marker c.args.inbox.now l.inbox c.args.number c.args.mutator.now l.mutator l.invariant

pub loop-block-preserved : goal.loop-block-preserved
loop-block-preserved c =
    let l = c.loop-block in
    giving_more c.args.segments.now l.segments c.args.marker.now l.marker c.args.inbox.now l.inbox c.args.number c.args.mutator.now l.mutator
    l.invariant c.add-in-Some.new.segments c.add-in-Some.new.self c.take_block.new.inbox c.take_block.new.mutator c.in-Some.block
    c.entries-in-Some.result.now c.take_block.ensures.rest c.in-Some.ensures.some c.entries-in-Some.ensures.value (record {
      marked =
          c.add-in-Some.ensures.marked;
      tied = c.add-in-Some.ensures.tied;
      turns = c.add-in-Some.ensures.turns;
    })

pub loop-block-smaller : goal.loop-block-smaller
loop-block-smaller c =
    let l = c.loop-block in
    fewer_wait l.inbox c.take_block.new.inbox c.args.number l.mutator.sender c.take_block.new.mutator.sender c.in-Some.block c.in-Some.ensures.some

pub returns-clause-added : goal.returns-clause-added
returns-clause-added c =
    let l = c.loop-block in
    given_all c.args.segments.now l.segments c.args.marker.now l.marker c.args.inbox.now l.inbox c.args.number c.args.mutator.now l.mutator
    l.invariant c.take_block.new.inbox c.take_block.new.mutator c.take_block.ensures.rest c.in_default.ensures.none c.add-2.new.segments
    c.add-2.new.self c.entries-2.result.now c.entries-2.ensures (record {
      marked = c.add-2.ensures.marked;
      tied = c.add-2.ensures.tied;
      turns = c.add-2.ensures.turns;
    })

pub returns-clause-mutator : goal.returns-clause-mutator
returns-clause-mutator c =
    let l = c.loop-block in
    given_rest c.args.segments.now l.segments c.args.marker.now l.marker c.args.inbox.now l.inbox c.args.number c.args.mutator.now l.mutator
    l.invariant c.take_block.new.inbox c.take_block.new.mutator c.take_block.ensures.rest c.in_default.ensures.none

pub returns-clause-inbox : goal.returns-clause-inbox
returns-clause-inbox c =
    let l = c.loop-block in
    given_took c.args.segments.now l.segments c.args.marker.now l.marker c.args.inbox.now l.inbox c.args.number c.args.mutator.now l.mutator
    l.invariant c.take_block.new.inbox c.take_block.new.mutator c.take_block.ensures.rest c.in_default.ensures.none

pub returns-clause-pair : goal.returns-clause-pair
returns-clause-pair c =
    let l = c.loop-block in
    given_paired c.args.segments.now l.segments c.args.marker.now l.marker c.args.inbox.now l.inbox c.args.number c.args.mutator.now l.mutator
    l.invariant c.take_block.new.inbox c.take_block.new.mutator c.take_block.ensures.rest c.in_default.ensures.none
