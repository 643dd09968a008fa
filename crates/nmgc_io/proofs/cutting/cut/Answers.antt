use Rattle.std.proofs.Common.{◌<◌, length, arith}
use Rattle.nmgc_io.proofs.Separators.{cut_at, others_before, all_others}
use Rattle.nmgc_io.proofs.cutting.cut.Goals as goal

pub returns-then-at-bytes-clause-none : goal.returns-then-at-bytes-clause-none
returns-then-at-bytes-clause-none c = all_others c.args.bytes.now c.position_of-at.result c.args.byte (omega arith) c.position_of-at.ensures.before

pub returns-clause-parts : goal.returns-clause-parts
returns-clause-parts c =
    let inside : c.position_of-at.result < length c.args.bytes.now = omega (arith, c.position_of-at.ensures.within) in
    cut_at c.args.bytes.now c.position_of-at.result c.args.byte inside (c.position_of-at.ensures.found inside)

pub returns-clause-first : goal.returns-clause-first
returns-clause-first c = others_before c.args.bytes.now c.position_of-at.result c.args.byte c.position_of-at.ensures.within c.position_of-at.ensures.before
