use Rattle.nmgc_cycle.proofs.{Vocabulary.get_or, Vocabulary.arith, Vocabulary.slice_get-get_or, Vocabulary.Mutator, stops.Forgetting.forgot_more, stops.Forgetting.forgot_none, rounds.Lining.paired}
use Rattle.nmgc_cycle.proofs.cycle.forget_all.Goals as goal

pub loop-number-init : goal.loop-number-init
loop-number-init c = forgot_none c.args.inbox.now c.args.mutators.now c.requires.lines

pub overflow_cast-number : goal.overflow_cast-number
overflow_cast-number c = let few = c.requires.lines.few in let lt = c.loop-number-test.true in omega (arith, few, lt)

pub forget-requires : goal.forget-requires
forget-requires c =
    let h = c.loop-number.invariant in
    let lt = c.loop-number-test.true in
    let count = h.count in
    let m : Mutator = get_or c.loop-number.mutators c.loop-number.number c.index-mutators-number.result in
    paired c.loop-number.inbox c.loop-number.number m.sender (h.lines c.loop-number.number m
    (slice_get-get_or c.loop-number.mutators c.loop-number.number c.index-mutators-number.result (omega (arith, lt, count))))

pub loop-number-preserved : goal.loop-number-preserved
loop-number-preserved c =
    let h = c.loop-number.invariant in
    let lt = c.loop-number-test.true in
    let count = h.count in
    let m : Mutator = get_or c.loop-number.mutators c.loop-number.number c.index-mutators-number.result in
    let at = slice_get-get_or c.loop-number.mutators c.loop-number.number c.index-mutators-number.result (omega (arith, lt, count)) in
    forgot_more c.args.inbox.now c.loop-number.inbox c.forget.new.inbox c.args.mutators.now c.loop-number.mutators c.loop-number.number m
    c.forget.new.mutator h at c.forget.ensures.forgot c.forget.ensures.inbox c.forget.ensures.line
