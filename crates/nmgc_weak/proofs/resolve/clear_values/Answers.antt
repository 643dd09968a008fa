use Rattle.nmgc_weak.proofs.{Vocabulary.ℕ, Vocabulary.List, Vocabulary.set, Vocabulary.take, Vocabulary.get_or, Vocabulary.sym, Vocabulary.ap, Vocabulary.◌∙◌, Vocabulary.arith, Vocabulary.length, Vocabulary.OldWeak, Vocabulary.value_place, Clearing.cleared_length, Clearing.cleared_more, Finding.at_contains}
use Rattle.nmgc_weak.proofs.resolve.clear_values.Goals as goal

abbrev nobody : OldWeak
nobody = record { weak = record { maker = 0; serial = 0 }; at = record { 0 = 0 } }

pub store-requires : goal.store-requires
store-requires g c =
    let ws = g.W.HeapWords.words c.args.words.now in
    let x = get_or c.args.dying.now c.loop-weak.weak-index nobody in
    let inside = (c.requires x (at_contains c.args.dying.now c.loop-weak.weak-index nobody c.loop-weak-test.true)).inside in
    let l = ap length c.loop-weak.invariant ∙ cleared_length ws (take c.loop-weak.weak-index c.args.dying.now) in
    omega (arith, inside, l)

pub loop-weak-preserved : goal.loop-weak-preserved
loop-weak-preserved g c =
    let ws = g.W.HeapWords.words c.args.words.now in
    c.store.ensures ∙ ap (λ (l : List ℕ).
    set l (value_place (get_or c.args.dying.now c.loop-weak.weak-index nobody).at.0) 0) c.loop-weak.invariant ∙
    sym (cleared_more ws c.args.dying.now c.loop-weak.weak-index nobody c.loop-weak-test.true)
