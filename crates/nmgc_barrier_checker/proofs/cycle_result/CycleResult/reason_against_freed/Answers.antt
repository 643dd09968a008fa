use Rattle.nmgc_barrier_checker.proofs.{Vocabulary.◌≡◌, Vocabulary.◌∙◌, Vocabulary.refl, Vocabulary.sym, Vocabulary.ap, Vocabulary.true, Vocabulary.false, Vocabulary.not, Vocabulary.get_or, Vocabulary.inl, Vocabulary.inr, Vocabulary.IsSome, Vocabulary.false≢true, Vocabulary.Name, Vocabulary.node_of, Vocabulary.MayFree, Vocabulary.WhyKept, Vocabulary.is_old, CycleLaws.none_there, CycleLaws.not_none_there, Filters.each_more, Filters.each_all, Firsts.stands_at, Reasons.no_freed_name}
use Rattle.nmgc_barrier_checker.specs.declared.event.Why.TheVariants as why
use Rattle.nmgc_barrier_checker.proofs.cycle_result.CycleResult.reason_against_freed.Goals as goal

pub returns-then-is_none : goal.returns-then-is_none
returns-then-is_none c =
    let n : Name = get_or c.args.names.now c.loop-name.name-index (record { maker = 0; serial = 0 }) in
    let gone : WhyKept c.args.self.now n (why.NoSuchName n) =
    inl (refl, none_there c.node.result _ c.node.ensures (c.is_none.ensures ∙ ap not c.if-is_none.true)) in (
      n,
      stands_at (λ other. MayFree c.args.self.now other → ⊥) c.args.names.now c.loop-name.name-index (record { maker = 0; serial = 0 }) c.loop-name-test.true
          (λ other k never. never (c.loop-name.invariant other k)) (no_freed_name c.args.self.now n (why.NoSuchName n) gone),
      gone,
    )

pub returns-then-not-is_old : goal.returns-then-not-is_old
returns-then-not-is_old c =
    let n : Name = get_or c.args.names.now c.loop-name.name-index (record { maker = 0; serial = 0 }) in
    let there : IsSome (node_of c.args.self.now.world n) = not_none_there c.node.result _ c.node.ensures (ap not (c.is_none.ensures ∙
    ap not c.if-is_none.false)) in
    let new : is_old c.args.self.now.old n ≡ false = rw c.items-old.ensures at (sym c.is_old.ensures ∙ c.if-not-is_old.true) in
    let kept : WhyKept c.args.self.now n (why.NotOld n) = inr (there, inl (refl, λ old. false≢true (sym new ∙ old))) in (
      n,
      stands_at (λ other. MayFree c.args.self.now other → ⊥) c.args.names.now c.loop-name.name-index (record { maker = 0; serial = 0 }) c.loop-name-test.true
          (λ other k never. never (c.loop-name.invariant other k)) (no_freed_name c.args.self.now n (why.NotOld n) kept),
      kept,
    )

pub returns-then-has : goal.returns-then-has
returns-then-has c =
    let n : Name = get_or c.args.names.now c.loop-name.name-index (record { maker = 0; serial = 0 }) in
    let there : IsSome (node_of c.args.self.now.world n) = not_none_there c.node.result _ c.node.ensures (ap not (c.is_none.ensures ∙
    ap not c.if-is_none.false)) in
    let old : is_old c.args.self.now.old n ≡ true = rw c.items-old.ensures at (sym c.is_old.ensures ∙ c.if-not-is_old.false) in
    let kept : WhyKept c.args.self.now n (why.Needed n) = inr (there, inr (refl, old, c.has.ensures.0 c.if-has.true)) in (
      n,
      stands_at (λ other. MayFree c.args.self.now other → ⊥) c.args.names.now c.loop-name.name-index (record { maker = 0; serial = 0 }) c.loop-name-test.true
          (λ other k never. never (c.loop-name.invariant other k)) (no_freed_name c.args.self.now n (why.Needed n) kept),
      kept,
    )

pub loop-name-preserved : goal.loop-name-preserved
loop-name-preserved c =
    let n : Name = get_or c.args.names.now c.loop-name.name-index (record { maker = 0; serial = 0 }) in
    let there : IsSome (node_of c.args.self.now.world n) = not_none_there c.node.result _ c.node.ensures (ap not (c.is_none.ensures ∙
    ap not c.if-is_none.false)) in
    let old : is_old c.args.self.now.old n ≡ true = rw c.items-old.ensures at (sym c.is_old.ensures ∙ c.if-not-is_old.false) in
    each_more (MayFree c.args.self.now) c.args.names.now c.loop-name.name-index (record { maker = 0; serial = 0 }) c.loop-name-test.true c.loop-name.invariant
    (there, old, λ k. false≢true (sym c.if-has.false ∙ c.has.ensures.1 k))

pub returns : goal.returns
returns c = each_all (MayFree c.args.self.now) c.args.names.now c.loop-name.name-index c.loop-name-test.false c.loop-name.invariant
