use Rattle.nmgc_image.proofs.{Vocabulary.sym, Vocabulary.subst, Vocabulary.arith, Vocabulary.Contains, Vocabulary.Contains-get_or, Vocabulary.MutatorEnd, Vocabulary.Visits, Vocabulary.IsOwnRoot, Visiting.mutators_start, Visiting.mutators_next, Visiting.mutators_end}
use Rattle.nmgc_image.proofs.places.visit_mutators.Goals as goal

pub loop-own-init : goal.loop-own-init
loop-own-init c = mutators_start c.args.mutators.now c.args.search.now c.requires.sound

pub visit_own-requires-clause-within : goal.visit_own-requires-clause-within
visit_own-requires-clause-within c = λ at r.
    let held : Contains c.args.mutators.now c.own-item.result =
    subst (λ (m : MutatorEnd).
    Contains c.args.mutators.now m) (sym c.own-item.is)
    (Contains-get_or c.args.mutators.now c.loop-own.own-index c.own-item.result c.loop-own-test.true) in
    let h = c.requires.within at (c.own-item.result, held, r) in
    let low = h.0 in
    let room = c.loop-own.invariant.room in
    (omega (arith, low, room), h.1)

pub loop-own-preserved : goal.loop-own-preserved
loop-own-preserved c =
    mutators_next c.args.mutators.now c.loop-own.own-index c.own-item.result c.args.search.now c.loop-own.search c.visit_own.new.search
    c.loop-own-test.true c.loop-own.invariant (subst (λ (m : MutatorEnd).
    Visits (IsOwnRoot m) c.loop-own.search c.visit_own.new.search) c.own-item.is c.in_ok-visit_own.ensures)

pub returns : goal.returns
returns c = mutators_end c.args.mutators.now c.loop-own.own-index c.args.search.now c.loop-own.search c.loop-own-test.false c.loop-own.invariant
