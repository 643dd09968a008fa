use Rattle.std.proofs.Common.{refl}
use Rattle.nmgc_segment.specs.Invariant.{InSnapshot}
use Rattle.nmgc_weak.proofs.{Knowing.block_known, Vocabulary.nth}
use Rattle.nmgc_weak.proofs.resolve.snapshot_block.Goals as goal

pub returns-then-in_snapshot-clause-some : goal.returns-then-in_snapshot-clause-some
returns-then-in_snapshot-clause-some c =
    let known = block_known InSnapshot c.args.segments.now c.in_ok-number.number c.in_ok-number.block c.args.at.0
    (nth c.args.segments.now.segments c.in_ok-number.number) c.in_snapshot.result c.layout.ensures.sound c.in_ok-number.ensures.some refl
    c.in_snapshot.ensures in
    (c.in_ok-number.ensures.some, known.0 c.if-in_snapshot.true)

pub returns-clause-none : goal.returns-clause-none
returns-clause-none c = λ snapshot.
    let known = block_known InSnapshot c.args.segments.now c.in_ok-number.number c.in_ok-number.block c.args.at.0
    (nth c.args.segments.now.segments c.in_ok-number.number) c.in_snapshot.result c.layout.ensures.sound c.in_ok-number.ensures.some refl
    c.in_snapshot.ensures in
    let is = known.1 snapshot in
    let not = c.if-in_snapshot.false in
    cc
