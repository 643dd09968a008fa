use Rattle.nmgc_cycle.proofs.{Vocabulary.get_or, Vocabulary.arith, Vocabulary.slice_get-get_or, Vocabulary.Mutator, rounds.Meeting.met_none, rounds.Meeting.met_more}
use Rattle.nmgc_cycle.proofs.round.meet_each.Goals as goal

pub loop-number-init : goal.loop-number-init
loop-number-init c = met_none c.args.inbox.now c.args.mutators.now c.requires.lines

pub overflow_cast-number : goal.overflow_cast-number
overflow_cast-number c = let few = c.requires.lines.few in let lt = c.loop-number-test.true in omega (arith, few, lt)

pub meet-requires : goal.meet-requires
meet-requires c =
    let h = c.loop-number.invariant in
    let lt = c.loop-number-test.true in
    let count = h.count in
    let m : Mutator = get_or c.loop-number.mutators c.loop-number.number c.index-mutators-number.result in
    h.lines c.loop-number.number m (slice_get-get_or c.loop-number.mutators c.loop-number.number c.index-mutators-number.result (omega (arith, lt, count)))

pub loop-number-preserved : goal.loop-number-preserved
loop-number-preserved c =
    let h = c.loop-number.invariant in
    let lt = c.loop-number-test.true in
    let count = h.count in
    let m : Mutator = get_or c.loop-number.mutators c.loop-number.number c.index-mutators-number.result in
    let at = slice_get-get_or c.loop-number.mutators c.loop-number.number c.index-mutators-number.result (omega (arith, lt, count)) in
    met_more c.args.inbox.now c.loop-number.inbox c.meet.new.inbox c.args.mutators.now c.loop-number.mutators c.loop-number.number m
    c.meet.new.mutator h at c.meet.ensures.mutator c.meet.ensures.receiver
