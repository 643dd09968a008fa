use Rattle.nmgc_mutator.proofs.{Vocabulary.◌≡◌, Vocabulary.◌*◌, Vocabulary.true, Vocabulary.List, Vocabulary.[], Vocabulary.◌∷◌, Vocabulary.refl, Vocabulary.sym, Vocabulary.ap, Vocabulary.◌∙◌, Vocabulary.arith, Vocabulary.map-append, Vocabulary.Address, Vocabulary.numbers, Vocabulary.is_old, Vocabulary.old_odd, Readies.kept_items, Refers.old_below, Refers.old_pushed, Refers.none_pushed}
use Rattle.nmgc_mutator.proofs.mutator.Mutator.push.Goals as goal

pub overflow_cast-at : goal.overflow_cast-at
overflow_cast-at c =
    let below = old_below c.args.self.now.layout (2 * c.in-Some.at) c.in-Some.at refl (sym c.is_old.ensures ∙ c.if-is_old.true) in
    let heap = c.requires.one.layout.heap in
    omega (arith, below, heap)

pub returns-in_default-clause-pushed : goal.returns-in_default-clause-pushed
returns-in_default-clause-pushed c =
    rw (none_pushed c.args.self.now.layout c.args.marking c.args.word (old_odd c.args.self.now.layout c.args.word c.in_default.ensures.none))
    (kept_items (numbers c.args.self.now.updrem.items))

pub returns-then-is_old-clause-pushed : goal.returns-then-is_old-clause-pushed
returns-then-is_old-clause-pushed c =
    let old : is_old c.args.self.now.layout c.args.word ≡ true = ap (is_old c.args.self.now.layout) c.in-Some.ensures.some ∙ sym c.is_old.ensures ∙
    c.if-is_old.true in
    rw (old_pushed c.args.self.now.layout c.args.word c.in-Some.at c.in-Some.ensures.some c.args.marking c.if-not-marking.false old)
    (ap (λ (l : List Address). numbers l) c.push.ensures.entries ∙
    map-append (λ (a : Address). a.0) c.args.self.now.updrem.items (record { 0 = c.in-Some.at } ∷ []))

pub returns-else-is_old-clause-pushed : goal.returns-else-is_old-clause-pushed
returns-else-is_old-clause-pushed c =
    rw (none_pushed c.args.self.now.layout c.args.marking c.args.word (ap (is_old c.args.self.now.layout) c.in-Some.ensures.some ∙ sym c.is_old.ensures ∙
    c.if-is_old.false)) (kept_items (numbers c.args.self.now.updrem.items))
