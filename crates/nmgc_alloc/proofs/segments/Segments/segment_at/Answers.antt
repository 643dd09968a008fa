use Rattle.std.proofs.Common.{arith}
use Rattle.nmgc_alloc.proofs.MarkLaws.{place_in, in_no_segment}
use Rattle.nmgc_alloc.proofs.segments.Segments.segment_at.Goals as goal

pub returns-in_err-distance-clause-none : goal.returns-in_err-distance-clause-none
returns-in_err-distance-clause-none c =
    rw c.from_residual.ensures (λ number block begins. c.in_err-distance.ensures (omega (arith, begins.place)))

pub returns-then-number-len-clause-none : goal.returns-then-number-len-clause-none
returns-then-number-len-clause-none c = λ number block begins.
    in_no_segment _ _ c.args.at.0 _ _ number block c.self.view_is c.self.invariant.0 c.in_ok-distance.ensures c.split-number.ensures.number
    (omega arith) begins

pub returns-clause-some : goal.returns-clause-some
returns-clause-some c =
    place_in _ _ c.args.at.0 _ _ _ c.self.view_is c.self.invariant.0 c.in_ok-distance.ensures c.split-number.ensures.number
    c.split-number.ensures.rest (omega arith)
