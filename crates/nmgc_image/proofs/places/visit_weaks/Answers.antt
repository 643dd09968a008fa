use Rattle.nmgc_image.proofs.{Vocabulary.ℕ, Vocabulary.◌≡◌, Vocabulary.List, Vocabulary.[], Vocabulary.sym, Vocabulary.ap, Vocabulary.subst, Vocabulary.arith, Vocabulary.true, Vocabulary.Contains, Vocabulary.Name, Vocabulary.Layout, Vocabulary.name_in, Vocabulary.has_key, Vocabulary.IsWeakIn, Vocabulary.IsWeakRoot, Searching.visits_none, Visiting.below_start, Visiting.below_next, Visiting.below_all}
use Rattle.nmgc_image.proofs.places.visit_weaks.Goals as goal

-- an empty list has no name
no_key : (keys : List ℕ) (name : Name) → keys ≡ [] → has_key keys name ≡ true → ⊥
no_key keys name none has = let e : has_key [] name ≡ true = subst (λ (l : List ℕ). has_key l name ≡ true) none has in cc

pub returns-then-is_empty : goal.returns-then-is_empty
returns-then-is_empty c = visits_none (IsWeakRoot c.args.report.now) c.args.search.now c.requires.sound (λ at r.
    let name : Name = name_in c.args.report.now.words at in
    let listed : Contains c.items.result.now name = subst (λ (l : List Name). Contains l name) (sym c.items.ensures) r.1.1.listed in
    absurd (no_key c.in_ok-weaks.weaks.keys.items name (c.is_empty.ensures.0 c.if-is_empty.true) (c.in_ok-weaks.ensures.complete name listed)))

pub loop-number-init : goal.loop-number-init
loop-number-init c = below_start (IsWeakIn c.args.report.now) c.args.search.now c.requires.sound

pub loop-number-preserved : goal.loop-number-preserved
loop-number-preserved c =
    below_next (IsWeakIn c.args.report.now) c.loop-number.number c.args.search.now c.loop-number.search c.visit_segment.new.search
    c.loop-number.invariant c.in_ok-visit_segment.ensures

pub returns : goal.returns
returns c = below_all (IsWeakIn c.args.report.now) c.loop-number.number c.args.search.now c.loop-number.search (λ k at r.
    let exists = r.1.begins.exists in
    let count = c.layout-number-end.ensures.sound.count in
    let same = ap (λ (l : Layout). l.segments) c.layout-number-end.ensures.layout in
    let all = c.loop-number-test.false in
    omega (arith, exists, count, same, all)) c.loop-number.invariant
