use Rattle.nmgc_sweep.proofs.{Vocabulary.ℕ, Vocabulary.◌≡◌, Vocabulary.◌∙◌, Vocabulary.List, Vocabulary.◌++◌, Vocabulary.length, Vocabulary.refl, Vocabulary.sym, Vocabulary.ap, Vocabulary.subst, Vocabulary.arith, Vocabulary.min, Vocabulary.IsEpoch, Vocabulary.IsInHalf, Vocabulary.SweepsMany, Vocabulary.Sweeper, Vocabulary.HasSwept, Vocabulary.HasJudged, Begins.waiting_counted, Judged.judged, Steps.all_swept, Steps.can_list, Steps.listed_keeps}
use Rattle.nmgc_sweep.proofs.sweeper.Sweeper.sweep_some.Goals as goal

pub list_first-requires-clause-can : goal.list_first-requires-clause-can
list_first-requires-clause-can g c =
    let done : List ℕ = c.self.inside.done.items in
    let planned : c.args.self.now.seen.swept ≡ done ++ c.args.self.now.left = sym (ap (λ (s : Sweeper). s.seen.swept) c.self.view_is) ∙
    c.self.invariant.1.first ∙ ap (λ (s : Sweeper). done ++ s.left) c.self.view_is in
    can_list c.args.segments.now c.args.self.now done planned c.requires.left

pub list_first-requires-clause-enough : goal.list_first-requires-clause-enough
list_first-requires-clause-enough g c =
    let all = waiting_counted c.args.segments.now c.args.self.now.left c.args.segments.now.segments c.requires.left.numbers in
    let waiting = c.sweep_count.ensures in
    let least = c.min-count.ensures in
    omega (arith, all, waiting, least)

-- exactly the listed segments are swept
pub sweep_many-requires-clause-before : goal.sweep_many-requires-clause-before
sweep_many-requires-clause-before g c κs within =
    let all = waiting_counted c.args.segments.now c.args.self.now.left c.args.segments.now.segments c.requires.left.numbers in
    let waiting = c.sweep_count.ensures in
    let least = c.min-count.ensures in
    let same : min c.min-count.result (length c.args.self.now.left) ≡ min c.args.quota (length c.args.self.now.left) = omega (arith, all, waiting, least) in
    λ half i inside. c.requires.before half i (subst (λ (n : ℕ). IsInHalf n half i) (ap (λ (n : ℕ). min c.min-count.result n) all ∙ same) inside)

pub returns-clause-many : goal.returns-clause-many
returns-clause-many g c =
    let all = waiting_counted c.args.segments.now c.args.self.now.left c.args.segments.now.segments c.requires.left.numbers in
    let waiting = c.sweep_count.ensures in
    let least = c.min-count.ensures in
    let many = c.sweep_many.ensures.count in
    omega (arith, all, waiting, least, many)

pub returns-clause-swept : goal.returns-clause-swept
returns-clause-swept g c =
    let old = c.args.segments.now in
    let new = c.sweep_many.new.self in
    let x : Sweeper = c.args.self.now in
    let y : Sweeper = c.list_first.new.self in
    let count = c.min-count.result in
    let all = waiting_counted old x.left old.segments c.requires.left.numbers in
    let waiting = c.sweep_count.ensures in
    let least = c.min-count.ensures in
    let many = c.sweep_many.ensures.count in
    let same : c.sweep_many.result ≡ count = omega (arith, all, waiting, least, many) in
    let epoch : c.self.inside.epoch ≡ x.seen.epoch = ap (λ (s : Sweeper). s.seen.epoch) c.self.view_is in
    let swept : SweepsMany x.seen.epoch count old new = subst (λ (k : ℕ).
    SweepsMany k count old new) epoch (subst (λ (k : ℕ). SweepsMany c.self.inside.epoch k old new) same c.sweep_many.ensures.swept) in
    subst (λ (k : ℕ). HasSwept old new c.args.names.now x y k) (sym same)
    (all_swept old old new c.args.names.now count x y (subst (λ (k : ℕ). IsEpoch k) epoch c.self.invariant.0) c.requires.left refl (λ n has.
    refl) c.list_first.ensures swept)

pub returns-clause-turns : goal.returns-clause-turns
returns-clause-turns g c =
    let kept = listed_keeps c.args.segments.now c.args.names.now c.min-count.result c.args.self.now c.list_first.new.self c.list_first.ensures in
    (kept.1, kept.2)

pub returns-clause-judged : goal.returns-clause-judged
returns-clause-judged g c =
    let old = c.args.segments.now in
    let new = c.sweep_many.new.self in
    let x : Sweeper = c.args.self.now in
    let y : Sweeper = c.list_first.new.self in
    let count = c.min-count.result in
    let all = waiting_counted old x.left old.segments c.requires.left.numbers in
    let waiting = c.sweep_count.ensures in
    let least = c.min-count.ensures in
    let many = c.sweep_many.ensures.count in
    let same : c.sweep_many.result ≡ count = omega (arith, all, waiting, least, many) in
    let epoch : c.self.inside.epoch ≡ x.seen.epoch = ap (λ (s : Sweeper). s.seen.epoch) c.self.view_is in
    let swept : SweepsMany x.seen.epoch count old new = subst (λ (k : ℕ).
    SweepsMany k count old new) epoch (subst (λ (k : ℕ). SweepsMany c.self.inside.epoch k old new) same c.sweep_many.ensures.swept) in
    subst (λ (k : ℕ). HasJudged old new c.args.names.now x y k) (sym same) (judged old new c.args.names.now count x y c.requires.left c.list_first.ensures swept)
