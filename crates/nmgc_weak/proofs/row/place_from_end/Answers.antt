use Rattle.nmgc_weak.proofs.{Vocabulary.◌≡◌, Vocabulary.◌+◌, Vocabulary.◌-◌, Vocabulary.◌<◌, Vocabulary.ℕ, Vocabulary.length, Vocabulary.ap, Vocabulary.sym, Vocabulary.subst, Vocabulary.refl, Vocabulary.◌∙◌, Vocabulary.arith, Vocabulary.slice_get, Vocabulary.iff_false, Vocabulary.same_Some, Vocabulary.IsBefore, Vocabulary.Entry, Entries.ComeAfter, Entries.none_after, Entries.one_before, Entries.nth_entry, Entries.entry_there}
use Rattle.nmgc_weak.proofs.row.place_from_end.Goals as goal

pub loop-place-init : goal.loop-place-init
loop-place-init c = none_after c.args.entries.now c.args.weak

pub loop-place-preserved : goal.loop-place-preserved
loop-place-preserved c =
    let some = c.loop-place-test.true in
    let within = c.loop-place.invariant.within in
    let last : ℕ = c.loop-place.place - 1 in
    let is : c.loop-place.place ≡ last + 1 = omega (arith, some) in
    let there : last < length c.args.entries.now = omega (arith, within, some) in
    one_before c.args.entries.now c.args.weak last (nth_entry c.args.entries.now last)
    (subst (λ (k : ℕ). ComeAfter c.args.entries.now c.args.weak k) is c.loop-place.invariant)
    (entry_there c.args.entries.now last there) (c.if-is_before.ensures.0 refl)

pub returns-else-is_before-clause-after : goal.returns-else-is_before-clause-after
returns-else-is_before-clause-after c = c.loop-place.invariant.after

pub returns-else-is_before-clause-before : goal.returns-else-is_before-clause-before
returns-else-is_before-clause-before c j e there is b =
    let some = c.loop-place-test.true in
    let within = c.loop-place.invariant.within in
    let last : ℕ = c.loop-place.place - 1 in
    let x : Entry = nth_entry c.args.entries.now last in
    let inside : last < length c.args.entries.now = omega (arith, within, some) in
    let same : j ≡ last = omega (arith, is) in
    let one : e ≡ x =
    same_Some e x (sym there ∙ ap (λ (k : ℕ). slice_get c.args.entries.now k) same ∙ entry_there c.args.entries.now last inside) in
    iff_false c.is_before.ensures c.if-is_before.false (subst (λ (y : Entry). IsBefore c.args.weak y.weak.weak) one b)

pub returns-clause-after : goal.returns-clause-after
returns-clause-after c = λ j e there le.
    let low = c.loop-place-test.false in
    c.loop-place.invariant.after j e there (omega (arith, low, le))

pub returns-clause-before : goal.returns-clause-before
returns-clause-before c = λ j e there is b. absurd (omega (arith, is))
