use Rattle.nmgc_barrier_checker.proofs.{Vocabulary.subst, Vocabulary.true, Vocabulary.Name, Vocabulary.IsBlackName, Vocabulary.get_or, Filters.each_more, Filters.each_all, Firsts.stands_at}
use Rattle.nmgc_barrier_checker.specs.Watching.{IsUnkept}
use Rattle.nmgc_barrier_checker.proofs.cycle_result.CycleResult.first_unkept.Goals as goal

pub returns-then-not-may_be_black : goal.returns-then-not-may_be_black
returns-then-not-may_be_black c =
    let n : Name = get_or c.args.names.now c.loop-name.name-index (record { maker = 0; serial = 0 }) in
    stands_at (IsUnkept c.args.self.now) c.args.names.now c.loop-name.name-index (record { maker = 0; serial = 0 }) c.loop-name-test.true
    (λ other k u. u.1 (c.loop-name.invariant other k u.0))
    (subst (IsBlackName c.args.self.now n) c.if-not-may_be_black.true c.may_be_black.ensures)

pub loop-name-preserved : goal.loop-name-preserved
loop-name-preserved c =
    let n : Name = get_or c.args.names.now c.loop-name.name-index (record { maker = 0; serial = 0 }) in
    each_more (λ (m : Name). IsBlackName c.args.self.now m true) c.args.names.now c.loop-name.name-index (record { maker = 0; serial = 0 }) c.loop-name-test.true
    c.loop-name.invariant (subst (IsBlackName c.args.self.now n) c.if-not-may_be_black.false c.may_be_black.ensures)

pub returns : goal.returns
returns c = each_all (λ (m : Name). IsBlackName c.args.self.now m true) c.args.names.now c.loop-name.name-index c.loop-name-test.false c.loop-name.invariant
